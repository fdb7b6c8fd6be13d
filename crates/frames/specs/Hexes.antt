-- Hexadecimal digits: what is written is read again, and what is read was so written. Assumes nothing.
use Rattle.std.specs.Prelude.{◌≡◌, ℕ, zero, suc, ◌+◌, ◌*◌, ◌/◌, ◌%◌, ◌^◌, ◌<◌, ◌≤◌, List, [], ◌∷◌, ◌++◌, length, drop, Some, slice_index, slice_set}
use Rattle.std.proofs.Common.{sym, ap, subst, ◌∙◌, append_assoc, add-zero, pow-suc, mod-lt, div-add-mod', add-one, arith, lit<, lit≤, drop-cons}
use Rattle.std.proofs.Math.Nat.{pow-zero, pow-le-pow_right}
use Rattle.std.proofs.Math.Arith.{digits_lt, digits_div, digits_mod}
use Rattle.std.proofs.lemmas.List.{append-nil, drop-set}
use Rattle.std.proofs.lemmas.Nat.{div_below}
use Rattle.std.proofs.lemmas.Option.{option_and_then_some}
use Rattle.std.specs.Option.{option_and_then}
use Rattle.std.proofs.lemmas.Bool.Decides.{nat_tests}
use Rattle.frames.specs.Hex.{hex_char, hex_digit, hexed, hex_number}

-- a digit that is written is read again
pub char_read : (d : ℕ) → d < 16 → hex_digit (hex_char d) ≡ Some d
char_read d small = grind (arith, nat_tests)

-- what a byte is, that is read as a digit
pub digit_spelled : (b d : ℕ) → hex_digit b ≡ Some d → (d < 16) × (hex_char d ≡ b)
digit_spelled b d e = (grind (arith, nat_tests), grind (arith, nat_tests))

pub hexed_more : (k n d : ℕ) → d < 16 → hexed (suc k) (n * 16 + d) ≡ hexed k n ++ (hex_char d ∷ [])
hexed_more k n d small =
    ap (λ q. hexed k q ++ (hex_char ((n * 16 + d) % 16) ∷ [])) (digits_div n small)
    ∙ ap (λ r. hexed k n ++ (hex_char r ∷ [])) (digits_mod n small)

-- a text is read from left to right
hex_append : (n m : ℕ) (xs ys : List ℕ) → hex_number n xs ≡ Some m → hex_number n (xs ++ ys) ≡ hex_number m ys
hex_append n m [] ys e = ap (option_and_then (λ k. hex_number k ys)) e
hex_append n m (b ∷ bs) ys e =
    option_and_then_some (λ d. hex_number (n * 16 + d) bs) (hex_digit b) m e
    (λ d read rest. ap (option_and_then (λ k. hex_number (n * 16 + k) (bs ++ ys))) read ∙ hex_append (n * 16 + d) m bs ys rest)

-- a number that is written in enough digits is read again
pub hexed_read : (k n : ℕ) → n < 16 ^ k → hex_number 0 (hexed k n) ≡ Some n
hexed_read zero n small = ap Some (omega (arith, pow-zero 16))
hexed_read (suc k) n small =
    let fits : n < 16 ^ k * 16 = rw pow-suc at small in
    hex_append 0 (n / 16) (hexed k (n / 16)) (hex_char (n % 16) ∷ []) (hexed_read k (n / 16) (div_below n 16 (16 ^ k) (lit< tt) fits))
    ∙ ap (option_and_then (λ d. hex_number (n / 16 * 16 + d) [])) (char_read (n % 16) (mod-lt n (lit< tt)))
    ∙ ap Some (div-add-mod' n 16)

-- a text that is read behind the k digits of n is how the number read is written
hex_spelled : (k n m : ℕ) (text : List ℕ) → n < 16 ^ k → hex_number n text ≡ Some m → (m < 16 ^ (k + length text)) × (hexed (k + length text) m ≡ hexed k n ++ text)
hex_spelled k n m [] small e =
    let same : n ≡ m = cc in
    (rw add-zero (subst (λ v. v < 16 ^ k) same small), ap (λ j. hexed j m) (add-zero k) ∙ ap (hexed k) (sym same) ∙ sym (append-nil (hexed k n)))
hex_spelled k n m (b ∷ bs) small e =
    option_and_then_some (λ d. hex_number (n * 16 + d) bs) (hex_digit b) m e
    (λ d read more.
    let spelled = digit_spelled b d read in
    let below : n * 16 + d < 16 ^ suc k = rw pow-suc (digits_lt small spelled.0) in
    let rest = hex_spelled (suc k) (n * 16 + d) m bs below more in
    let turn : suc k + length bs ≡ k + suc (length bs) = omega arith in (
      subst (λ j. m < 16 ^ j) turn rest.0,
      ap (λ j. hexed j m) (sym turn) ∙ rest.1 ∙ ap (λ xs. xs ++ bs) (hexed_more k n d spelled.0)
          ∙ append_assoc (hexed k n) (hex_char d ∷ []) bs ∙ ap (λ c. hexed k n ++ (c ∷ bs)) spelled.1,
    ))

-- a text that is read is how the number read is written
pub read_spelled : (text : List ℕ) (m : ℕ) → hex_number 0 text ≡ Some m → (m < 16 ^ length text) × (hexed (length text) m ≡ text)
read_spelled text m e =
    let all = hex_spelled 0 0 m text (omega (arith, pow-zero 16)) e in
    let turn : 0 + length text ≡ length text = omega arith in
    (subst (λ j. m < 16 ^ j) turn all.0, ap (λ j. hexed j m) (sym turn) ∙ all.1)

-- one digit more is read, or what is none
pub read_on : (text : List ℕ) (i n : ℕ) → i < length text → hex_number n (drop i text) ≡ option_and_then (λ d. hex_number (n * 16 + d) (drop (i + 1) text)) (hex_digit (slice_index text i))
read_on text i n within = ap (hex_number n) (drop-cons text i 0 within ∙ ap (λ j. slice_index text i ∷ drop j text) (sym (add-one i)))

-- the number of fewer than eight digits has room for one more
pub few_digits : (i n : ℕ) → i < 8 → n < 16 ^ i → n < 2 ^ 28
few_digits i n few below =
    let le : i ≤ 7 = omega arith in
    let bound : 16 ^ i ≤ 16 ^ 7 = pow-le-pow_right (lit≤ tt) le in
    omega arith

-- the bound on the digits so far, with one digit more
pub below_more : (i n d : ℕ) → n < 16 ^ i → d < 16 → n * 16 + d < 16 ^ (i + 1)
below_more i n d below small = subst (λ m. n * 16 + d < m) (sym (ap (λ m. 16 ^ m) (add-one i) ∙ pow-suc 16 i)) (digits_lt below small)

-- one digit more is written, in front of what stands
pub write_more : (j rest d : ℕ) (out w : List ℕ) → j < length out → d ≡ hex_char (rest % 16) → hexed (suc j) rest ++ drop (suc j) out ≡ w → hexed j (rest / 16) ++ drop j (slice_set out j d) ≡ w
write_more j rest d out w within is before =
    ap (λ xs. hexed j (rest / 16) ++ xs) (drop-set out j d within ∙ ap (λ x. x ∷ drop (j + 1) out) is ∙ ap (λ m. hex_char (rest % 16) ∷ drop m out) (add-one j))
    ∙ sym (append_assoc (hexed j (rest / 16)) (hex_char (rest % 16) ∷ []) (drop (suc j) out))
    ∙ before
