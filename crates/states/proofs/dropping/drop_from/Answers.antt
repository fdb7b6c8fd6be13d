use Rattle.std.proofs.Common.{rules, ◌≡◌, ◌∙◌, ◌++◌, [], ◌∷◌, length, sym, ap, take, vec_items, arith}
use Rattle.std.proofs.lemmas.List.{take-append-le, length-append}
use Rattle.states.proofs.Sums.{weigh_last}
use Rattle.states.proofs.dropping.drop_from.Goals as goal

pub loop-states-preserved : goal.loop-states-preserved
loop-states-preserved g c =
    let inv = c.loop-states.invariant in
    let told = c.let_go_state.ensures in
    let rest = vec_items c.pop.new.self in
    let last = c.unwrap-last.result in
    let split : vec_items c.loop-states.states ≡ rest ++ last ∷ [] = search rules in
    record {
      items = sym (ap (take c.args.keep) split ∙ take-append-le c.args.keep rest (last ∷ []) (omega (arith, ap length split, length-append rest (last ∷ []), c.len.ensures, c.loop-states-test.true))) ∙ inv.items;
      capacity = search rules;
      fewer = λ n. omega (arith, inv.fewer n, weigh_last n _ rest last split);
      counts = λ n. omega (arith, told.counts n, inv.counts n, inv.fewer n, weigh_last n _ rest last split);
      frees = search rules;
    }
