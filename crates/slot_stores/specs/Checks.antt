-- The check of a slot: two sums, both 0 at first.
use Rattle.std.specs.Prelude.{ℕ, ◌+◌, ◌%◌, List, fold}
use Rattle.slot_stores.specs.declared.check.Check.{Check}

abbrev pub no_check : Check
no_check = record { first = 0; second = 0 }

-- the first sum grows by each byte, and the second by the new first, each modulo 255
abbrev pub grown : Check → ℕ → Check
grown s b = record { first = (s.first + b) % 255; second = (s.second + (s.first + b) % 255) % 255 }

-- a check after more bytes
abbrev pub summed : Check → List ℕ → Check
summed = fold grown
