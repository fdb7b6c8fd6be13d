use Rattle.std.proofs.Common.{◌≡◌, ℕ, ◌+◌, ◌^◌, ◌<◌, get_or, take, vec_len}
use Rattle.pool.specs.Accounts.{counts_of, SameKept}
use Rattle.pool.specs.Counts.{naming}
use Rattle.pool.proofs.pool.Pool.hold.Given as goal

abbrev pub invariant-loop-entry : goal.invariant-loop-entry
invariant-loop-entry g l = record {
  store : l.self.store ≡ l.initial.self.store;
  kept : SameKept l.initial.self l.self;
  len : vec_len l.self.accounts ≡ vec_len l.initial.self.accounts;
  counts : (n : ℕ) → n < vec_len l.initial.self.accounts → get_or (counts_of l.initial.self) n 0 + naming n (take l.entry-index l.entries) < 2 ^ 32 → get_or (counts_of l.self) n 0 ≡ get_or (counts_of l.initial.self) n 0 + naming n (take l.entry-index l.entries);
}
