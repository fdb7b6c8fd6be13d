use Rattle.std.proofs.Common.{ap, ◌∙◌}
use Rattle.measures.specs.declared.energy.Energy.{Energy}
use Rattle.measures.proofs.Totals.{energy_total, few_total}
use Rattle.measures.proofs.meanings.energy_of.Goals as goal

pub returns : goal.returns
returns g c =
    let power = g.K.Frame.power in
    let xs = c.args.frames.now in
    let stops = ap (λ (e : Energy). e.sum) c.measure_of.ensures.value ∙ energy_total power xs in
    record { stops = stops; sum = λ few. stops ∙ few_total power g.met.K.Frame.bounded xs few }
