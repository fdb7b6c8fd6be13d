use Rattle.std.proofs.Common.{◌≡◌, ◌++◌, drop, vec_items}
use Rattle.rows.specs.Mending.{mended, mended_from}
use Rattle.rows.proofs.mending.mend.Given as goal

abbrev pub invariant-loop-next : goal.invariant-loop-next
invariant-loop-next l = vec_items l.out ++ mended_from l.limit l.last (drop l.next-index l.rest) ≡ mended l.limit l.pieces
