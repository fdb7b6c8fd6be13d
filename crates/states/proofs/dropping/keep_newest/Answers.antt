use Rattle.std.proofs.Common.{ℕ, List, ap, map, vec_items, arith}
use Rattle.states.specs.declared.state.State.{State}
use Rattle.states.specs.Rows.{contents, names, weigh_all}
use Rattle.states.proofs.Sums.{weigh_parts}
use Rattle.states.proofs.dropping.keep_newest.Goals as goal

pub returns-then-len-gt-NEWEST-clause-counts : goal.returns-then-len-gt-NEWEST-clause-counts
returns-then-len-gt-NEWEST-clause-counts g c =
    λ n.
    let all : List State → ℕ = λ z. weigh_all (names n) (map contents z) in
    omega (arith, c.drop_oldest.ensures.counts n, c.drop_from.ensures.counts n, ap all c.drop_oldest.ensures.items, ap all c.drop_from.ensures.items, weigh_parts n c.args.keep (vec_items c.args.states.now), weigh_parts n 1 (vec_items c.drop_from.new.states))
