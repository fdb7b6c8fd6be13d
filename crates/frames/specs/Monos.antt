-- What mono frames mean: samples of half 2 ^ 15, in two bytes and four digits.
use Rattle.std.specs.Prelude.{ℕ, ◌%◌, ◌^◌, ◌<◌, cond, List, length, ℤ, None, Option, ◌==◌}
use Rattle.std.proofs.Common.{arith}
use Rattle.std.specs.Int.Signed.{mag}
use Rattle.std.specs.Option.{option_map}
use Rattle.frames.specs.Twos.{signed, mag_signed}
use Rattle.frames.specs.Digits.{number}
use Rattle.frames.specs.Hex.{hex_number}
use Rattle.frames.specs.Samples.{sample_bytes, sample_line}
use Rattle.frames.specs.declared.mono.Mono.{Mono}

abbrev pub mono_of : (z : ℤ) → mag z < 2 ^ 15 → Mono
mono_of z f = record { value = z; fits = f }

-- the frame whose two's complement is the 16 lowest bits of n
abbrev pub mono_of_bits : ℕ → Mono
mono_of_bits n = mono_of (signed (2 ^ 15) (n % 2 ^ 16)) (mag_signed (2 ^ 15) (n % 2 ^ 16) (omega arith))

abbrev pub mono_bytes : Mono → List ℕ
mono_bytes x = sample_bytes (2 ^ 15) 2 x.value

abbrev pub mono_from : List ℕ → Mono
mono_from bs = mono_of_bits (number 256 bs)

abbrev pub mono_line : Mono → List ℕ
mono_line x = sample_line (2 ^ 15) 4 x.value

-- exactly four digits are a frame's line
abbrev pub mono_parsed : List ℕ → Option Mono
mono_parsed text = cond (length text == 4) (option_map mono_of_bits (hex_number 0 text)) None

pub mono_narrow : (x : Mono) → mag x.value < 2 ^ 31
mono_narrow x = omega (arith, x.fits)
