use Rattle.std.proofs.Common.{ap, ◌∙◌, arith, take_all, rules}
use Rattle.measures.specs.Measured.{measured}
use Rattle.measures.proofs.Folds.{measured_more, measured_parts}
use Rattle.measures.proofs.fold.measure_of.Goals as goal

pub loop-frame-preserved : goal.loop-frame-preserved
loop-frame-preserved g c =
    let m = g.M.Measure in
    let laws = g.met.M.Measure.laws in
    let joined = rw (c.loop-frame.invariant.1, c.of.ensures) at c.join-total.ensures in
    (omega arith, joined ∙ measured_more m.worth m.joined m.neutral laws c.args.frames.now c.loop-frame.frame-index _ c.loop-frame-test.true (search rules))

pub returns : goal.returns
returns g c =
    let m = g.M.Measure in
    let laws = g.met.M.Measure.laws in
    let whole = c.loop-frame.invariant.1 ∙ ap (measured m.worth m.joined m.neutral) (take_all _ _ c.loop-frame-test.false) in
    record { value = whole; parts = λ front back e. whole ∙ measured_parts m.worth m.joined m.neutral laws c.args.frames.now front back e }
