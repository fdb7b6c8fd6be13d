use Rattle.std.proofs.Common.{◌≡◌, ◌++◌, drop, vec_items}
use Rattle.rows.specs.Cutting.{cut}
use Rattle.rows.proofs.cutting.pieces_of.Given as goal

abbrev pub invariant-loop-entry : goal.invariant-loop-entry
invariant-loop-entry l = vec_items l.out ++ cut (drop l.entry-index l.row) l.start l.end ≡ cut l.row l.initial.start l.initial.end
