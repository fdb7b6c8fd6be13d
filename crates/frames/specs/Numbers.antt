-- Digits and two's complement are inverse to what reads them, at every width. Assumes nothing.
use Rattle.std.specs.Prelude.{◌≡◌, ℕ, zero, suc, ◌+◌, ◌-◌, ◌*◌, ◌/◌, ◌%◌, ◌^◌, ◌<◌, List, [], ◌∷◌, length, ℤ, pos, negsuc, nat_lt, refl}
use Rattle.std.proofs.Common.{ap, ◌∙◌, pow-suc, div-add-mod', mod-eq_of_lt, arith}
use Rattle.std.proofs.Math.Nat.{pow-zero}
use Rattle.std.proofs.Math.Arith.{digits_lt, digits_div, digits_mod}
use Rattle.std.specs.Int.Signed.{mag}
use Rattle.std.specs.List.{AllByRecursion}
use Rattle.std.proofs.lemmas.Bool.{cond-true, cond-false, cond_both, lt-ltb, le-ltb}
use Rattle.std.proofs.lemmas.Nat.{div_below}
use Rattle.frames.specs.Twos.{unsigned, signed}
use Rattle.frames.specs.Digits.{digits, number}

pub number_digits : (b k n : ℕ) → 0 < b → n < b ^ k → number b (digits b k n) ≡ n
number_digits b zero n p small = omega (arith, pow-zero b)
number_digits b (suc k) n p small =
    let fits : n < b ^ k * b = rw pow-suc at small in
    ap (λ q. q * b + n % b) (number_digits b k (n / b) p (div_below n b (b ^ k) p fits)) ∙ div-add-mod' n b

pub number_lt : (b : ℕ) (ds : List ℕ) → AllByRecursion (λ d. d < b) ds → number b ds < b ^ length ds
number_lt b [] h = omega (arith, pow-zero b)
number_lt b (d ∷ ds) h = rw pow-suc (digits_lt (number_lt b ds h.1) h.0)

pub digits_number : (b : ℕ) (ds : List ℕ) → AllByRecursion (λ d. d < b) ds → digits b (length ds) (number b ds) ≡ ds
digits_number b [] h = refl
digits_number b (d ∷ ds) h =
    ap (λ x. x ∷ digits b (length ds) ((number b ds * b + d) / b)) (digits_mod (number b ds) h.0)
    ∙ ap (λ q. d ∷ digits b (length ds) q) (digits_div (number b ds) h.0)
    ∙ ap (λ xs. d ∷ xs) (digits_number b ds h.1)

pub unsigned_lt : (h : ℕ) (z : ℤ) → mag z < h → unsigned h z < h + h
unsigned_lt h (pos n) f = omega arith
unsigned_lt h (negsuc n) f = omega arith

pub signed_unsigned : (h : ℕ) (z : ℤ) → mag z < h → signed h (unsigned h z) ≡ z
signed_unsigned h (pos n) f = cond-true _ _ _ (lt-ltb n h f)
signed_unsigned h (negsuc n) f = cond-false _ _ _ (le-ltb _ h (omega arith)) ∙ ap negsuc (omega arith)

pub unsigned_signed : (h n : ℕ) → n < h + h → unsigned h (signed h n) ≡ n
unsigned_signed h n small =
    cond_both (nat_lt n h) (pos n) (negsuc ((h + h) - suc n)) (λ z. unsigned h z ≡ n) (λ e. refl) (λ e. omega arith)

-- the number that the h + h lowest values of n stand for is n's own, where n is one of them
pub wrapped : (h n : ℕ) → n < h + h → signed h (n % (h + h)) ≡ signed h n
wrapped h n small = ap (signed h) (mod-eq_of_lt small)
