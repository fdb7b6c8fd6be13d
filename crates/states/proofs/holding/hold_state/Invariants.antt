use Rattle.std.proofs.Common.{◌≡◌, ℕ, ◌+◌, ◌^◌, ◌<◌, get_or, take, vec_len}
use Rattle.pool.specs.Accounts.{counts_of, SameKept}
use Rattle.states.specs.Rows.{contents, names, weigh}
use Rattle.states.proofs.holding.hold_state.Given as goal

abbrev pub invariant-loop-row : goal.invariant-loop-row
invariant-loop-row g l = record {
  store : l.pool.store ≡ l.initial.pool.store;
  kept : SameKept l.initial.pool l.pool;
  len : vec_len l.pool.accounts ≡ vec_len l.initial.pool.accounts;
  counts : (n : ℕ) → n < vec_len l.initial.pool.accounts → get_or (counts_of l.initial.pool) n 0 + weigh (names n) (take l.row-index (contents l.state)) < 2 ^ 32 → get_or (counts_of l.pool) n 0 ≡ get_or (counts_of l.initial.pool) n 0 + weigh (names n) (take l.row-index (contents l.state));
}
