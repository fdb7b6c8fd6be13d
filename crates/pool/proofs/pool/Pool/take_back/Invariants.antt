use Rattle.std.proofs.Common.{◌≡◌, vec_items, vec_len}
use Rattle.pool.specs.Accounts.{SameCounts}
use Rattle.pool.specs.Blocks.{emptied}
use Rattle.pool.specs.Kept.{KeepsRight}
use Rattle.pool.proofs.pool.Pool.take_back.Given as goal

abbrev pub invariant-loop-number : goal.invariant-loop-number
invariant-loop-number g l = record {
  store : emptied (g.S.Store.meaning l.self.store) (vec_items l.numbers) ≡ emptied (g.S.Store.meaning l.initial.self.store) (vec_items l.initial.numbers);
  counts : SameCounts l.initial.self l.self;
  keeps : KeepsRight g.S.Kind.Frame g.S.Store.meaning l.initial.self l.self;
}

abbrev pub decreases-loop-number : goal.decreases-loop-number
decreases-loop-number g l = vec_len l.numbers
