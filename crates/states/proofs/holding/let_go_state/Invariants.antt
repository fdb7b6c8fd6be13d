use Rattle.std.proofs.Common.{◌≡◌, ℕ, ◌-◌, get_or, take}
use Rattle.pool.specs.Accounts.{counts_of}
use Rattle.states.specs.Frees.{Frees}
use Rattle.states.specs.Rows.{contents, names, weigh}
use Rattle.states.proofs.holding.let_go_state.Given as goal

abbrev pub invariant-loop-row : goal.invariant-loop-row
invariant-loop-row g l = record {
  counts : (n : ℕ) → get_or (counts_of l.pool) n 0 ≡ get_or (counts_of l.initial.pool) n 0 - weigh (names n) (take l.row-index (contents l.state));
  frees : Frees g.S.Kind.Frame g.S.Store.meaning l.initial.pool l.pool;
}
