-- Lists of entries: their lengths. Assumes nothing.
use Rattle.std.specs.Prelude.{ℕ, List, sum_by}
use Rattle.rows.specs.declared.entry.Entry.{Entry}

-- the sum of the entries' lengths
abbrev pub total : List Entry → ℕ
total es = sum_by (λ e. e.len) es
