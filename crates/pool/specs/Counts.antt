-- How many entries of a list name a number.
use Rattle.std.specs.Prelude.{ℕ, cond, List, sum_by, ◌==◌}
use Rattle.rows.specs.declared.entry.Entry.{Entry}

-- one where the two numbers are the same
abbrev pub once : ℕ → ℕ → ℕ
once n b = cond (b == n) 1 0

abbrev pub naming : ℕ → List Entry → ℕ
naming n entries = sum_by (λ e. once n e.block) entries
