-- A sample of any half h in any number k of bytes or digits: writing and reading are inverse. Assumes nothing.
use Rattle.std.specs.Prelude.{◌≡◌, ℕ, ◌+◌, ◌*◌, ◌%◌, ◌^◌, ◌<◌, ◌≤◌, List, length, ℤ, pos, negsuc, Some}
use Rattle.std.proofs.Common.{sym, ap, subst, ◌∙◌, mul-le-mul, arith}
use Rattle.std.specs.Int.Signed.{mag}
use Rattle.std.specs.List.{AllByRecursion}
use Rattle.frames.specs.Twos.{unsigned, signed}
use Rattle.frames.specs.Digits.{digits, number}
use Rattle.frames.specs.Hex.{hexed, hex_number}
use Rattle.frames.specs.Samples.{sample_bytes, sample_line, square}
use Rattle.frames.specs.Numbers.{number_digits, number_lt, digits_number, unsigned_lt, signed_unsigned, unsigned_signed, wrapped}
use Rattle.frames.specs.Hexes.{hexed_read, read_spelled}

-- one sample in k bytes
pub sample_decodes : (h k : ℕ) (z : ℤ) → h + h ≡ 256 ^ k → mag z < h → signed h (number 256 (sample_bytes h k z) % (h + h)) ≡ z
sample_decodes h k z e f =
    let small : unsigned h z < h + h = unsigned_lt h z f in
    let fits : unsigned h z < 256 ^ k = omega arith in
    ap (λ n. signed h (n % (h + h))) (number_digits 256 k (unsigned h z) (omega arith) fits)
    ∙ wrapped h (unsigned h z) small
    ∙ signed_unsigned h z f

pub sample_encodes : (h k : ℕ) (bs : List ℕ) → h + h ≡ 256 ^ k → length bs ≡ k → AllByRecursion (λ b. b < 256) bs → sample_bytes h k (signed h (number 256 bs % (h + h))) ≡ bs
sample_encodes h k bs e l all =
    let below : number 256 bs < 256 ^ length bs = number_lt 256 bs all in
    let fits : number 256 bs < h + h = subst (λ n. number 256 bs < n) (ap (λ m. 256 ^ m) l ∙ sym e) below in
    ap (digits 256 k) (ap (unsigned h) (wrapped h (number 256 bs) fits) ∙ unsigned_signed h (number 256 bs) fits)
    ∙ ap (λ m. digits 256 m (number 256 bs)) (sym l)
    ∙ digits_number 256 bs all

-- the line of a sample is read as its two's complement
pub sample_parses : (h k : ℕ) (z : ℤ) → h + h ≡ 16 ^ k → mag z < h → hex_number 0 (sample_line h k z) ≡ Some (unsigned h z)
sample_parses h k z e f =
    let small : unsigned h z < h + h = unsigned_lt h z f in
    hexed_read k (unsigned h z) (omega arith)

-- k digits are the line of the sample that they are read as
pub sample_spells : (h k n : ℕ) (text : List ℕ) → h + h ≡ 16 ^ k → length text ≡ k → hex_number 0 text ≡ Some n → sample_line h k (signed h (n % (h + h))) ≡ text
sample_spells h k n text e l read =
    let spelled = read_spelled text n read in
    let fits : n < h + h = subst (λ m. n < m) (ap (λ j. 16 ^ j) l ∙ sym e) spelled.0 in
    ap (hexed k) (ap (unsigned h) (wrapped h n fits) ∙ unsigned_signed h n fits)
    ∙ ap (λ j. hexed j n) (sym l)
    ∙ spelled.1

pub square_le : (h : ℕ) (z : ℤ) → mag z < h → square z ≤ h * h
square_le h (pos n) f = mul-le-mul (omega arith) (omega arith)
square_le h (negsuc n) f = mul-le-mul (omega arith) (omega arith)
