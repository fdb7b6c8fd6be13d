-- One sample of half h (2 ^ 15 for 16 bits): its bytes, its line, and the facts about it.
use Rattle.std.specs.Prelude.{ℕ, ◌+◌, ◌*◌, Bool, List, ℤ, ◌==◌, unsigned_abs}
use Rattle.std.specs.Int.Signed.{mag}
use Rattle.frames.specs.Twos.{unsigned}
use Rattle.frames.specs.Digits.{digits}
use Rattle.frames.specs.Hex.{hexed}

-- the two's complement in k bytes, low byte first
abbrev pub sample_bytes : ℕ → ℕ → ℤ → List ℕ
sample_bytes h k z = digits 256 k (unsigned h z)

-- the two's complement in k hexadecimal digits, highest first
abbrev pub sample_line : ℕ → ℕ → ℤ → List ℕ
sample_line h k z = hexed k (unsigned h z)

-- whether z is -h or h - 1, the two ends of the range
abbrev pub at_end : ℕ → ℤ → Bool
at_end h z = mag z + 1 == h

abbrev pub square : ℤ → ℕ
square z = unsigned_abs z * unsigned_abs z
