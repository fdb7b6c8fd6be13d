use Rattle.std.proofs.Common.{◌≡◌, ◌≤◌, List, map, length, take, vec_items, vec_len, vec_capacity}
use Rattle.reading.specs.Stretches.{AllSound, sequence}
use Rattle.pool.specs.Accounts.{SameCounts}
use Rattle.pool.specs.Blocks.{CutsFit, cutout}
use Rattle.pool.specs.Kept.{KeepsRight}
use Rattle.pool.proofs.Placing.{Putting}
use Rattle.pool.proofs.pool.Pool.put_blocks.Given as goal

abbrev pub invariant-loop-cut : goal.invariant-loop-cut
invariant-loop-cut g l =
    let m = g.S.Store.meaning l.initial.self.store in
    let m' = g.S.Store.meaning l.self.store in
    record {
      len : vec_len l.numbers ≡ l.cut-index;
      room : length l.cuts ≤ vec_capacity l.numbers;
      parts : (ps : List (List g.row.S-Kind.Denot)) × (length ps ≡ l.cut-index) × Putting m ps (vec_items l.numbers) m'
          × (AllSound m l.stretches → CutsFit (length l.initial.work) (length (sequence m l.stretches)) l.cuts → ps ≡ map (cutout (sequence m l.stretches)) (take l.cut-index l.cuts));
      counts : SameCounts l.initial.self l.self;
      keeps : KeepsRight g.S.Kind.Frame g.S.Store.meaning l.initial.self l.self;
    }
