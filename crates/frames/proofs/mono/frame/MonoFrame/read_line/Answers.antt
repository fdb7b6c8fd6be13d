use Rattle.std.proofs.Common.{◌≡◌, ℕ, ◌^◌, ◌<◌, List, length, Some, subst, rules}
use Rattle.frames.specs.Hex.{hex_number}
use Rattle.frames.specs.Hexes.{read_spelled}
use Rattle.frames.specs.SixteenBits.{mono_cast}
use Rattle.frames.proofs.mono.frame.MonoFrame.read_line.Goals as goal

-- four digits are a number of 16 bits
four_digits : (text : List ℕ) (n : ℕ) → length text ≡ 4 → hex_number 0 text ≡ Some n → n < 2 ^ 16
four_digits text n four read = subst (λ k. n < 16 ^ k) four (read_spelled text n read).0

pub overflow_cast-bits : goal.overflow_cast-bits
overflow_cast-bits c = record { fits = four_digits c.args.text.now c.in_ok-bits.bits (search rules) (search rules) }

pub returns : goal.returns
returns c =
    let small = four_digits c.args.text.now c.in_ok-bits.bits (search rules) (search rules) in
    let same = mono_cast c.new.result _ _ small c.new.ensures c.cast_signed.ensures in
    search rules
