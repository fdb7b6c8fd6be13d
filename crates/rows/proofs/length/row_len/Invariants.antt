use Rattle.std.proofs.Common.{◌≡◌, ◌-◌, ◌^◌, min, take}
use Rattle.rows.specs.Entries.{total}
use Rattle.rows.proofs.length.row_len.Given as goal

abbrev pub invariant-loop-entry : goal.invariant-loop-entry
invariant-loop-entry l = l.sum ≡ min (total (take l.entry-index l.entries)) (2 ^ 64 - 1)
