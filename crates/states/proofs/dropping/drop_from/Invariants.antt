use Rattle.std.proofs.Common.{◌≡◌, ℕ, ◌≤◌, map, take, vec_len, vec_capacity, vec_items}
use Rattle.states.specs.Frees.{Frees, Shed}
use Rattle.states.specs.Rows.{contents, names, weigh_all}
use Rattle.states.proofs.dropping.drop_from.Given as goal

abbrev pub invariant-loop-states : goal.invariant-loop-states
invariant-loop-states g l = record {
  items : take l.keep (vec_items l.states) ≡ take l.keep (vec_items l.initial.states);
  capacity : vec_capacity l.states ≡ vec_capacity l.initial.states;
  fewer : (n : ℕ) → weigh_all (names n) (map contents (vec_items l.states)) ≤ weigh_all (names n) (map contents (vec_items l.initial.states));
  counts : Shed l.initial.pool (vec_items l.initial.states) l.pool (vec_items l.states);
  frees : Frees g.S.Kind.Frame g.S.Store.meaning l.initial.pool l.pool;
}

abbrev pub decreases-loop-states : goal.decreases-loop-states
decreases-loop-states g l = vec_len l.states
