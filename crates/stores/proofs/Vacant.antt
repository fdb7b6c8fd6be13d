-- The free numbers of a list of blocks: how many there are, and which is the lowest.
use Rattle.std.proofs.Common.{◌≡◌, ℕ, suc, ◌+◌, ◌-◌, ◌<◌, ◌≤◌, Bool, cond, eqb, ◌≢◌, List, [], ◌∷◌, length, get_or, Some, None, Option, refl, sym, ap, ◌∙◌, zero-add, arith}
use Rattle.std.specs.List.{count_by, find, range_with_len}
use Rattle.std.proofs.lemmas.List.{nil_from_length}
use Rattle.std.proofs.lemmas.List.Sums.{sum_by-cons}
use Rattle.std.proofs.lemmas.Bool.{cond_both, eqb-true, eqb-false, ne_eqb}
use Rattle.stores.specs.Meaning.{vacant, lowest_from}

module _ {F : Type 0} where
  -- a test of numbers, from a number on, that says of each whether its block is empty
  abbrev pub Tests : (ℕ → Bool) → ℕ → List (List F) → Type 0
  Tests t from bs = (i : ℕ) → i < length bs → t (from + i) ≡ eqb (length (get_or bs i [])) 0

  first : (t : ℕ → Bool) (from : ℕ) (b : List F) (bs : List (List F)) → Tests t from (b ∷ bs) → t from ≡ eqb (length b) 0
  first t from b bs h = let e : from + 0 ≡ from = omega arith in ap t (sym e) ∙ h 0 (omega arith)

  others : (t : ℕ → Bool) (from : ℕ) (b : List F) (bs : List (List F)) → Tests t from (b ∷ bs) → Tests t (from + 1) bs
  others t from b bs h i lt = let e : from + 1 + i ≡ from + suc i = omega arith in ap t e ∙ h (suc i) (omega arith)

  -- the numbers that pass the test are as many as are free
  vacant_counted : (t : ℕ → Bool) (from : ℕ) (bs : List (List F)) → Tests t from bs → count_by t (range_with_len from (length bs)) ≡ vacant bs
  vacant_counted t from [] h = refl
  vacant_counted t from (b ∷ bs) h =
      sum_by-cons (λ n. cond (t n) 1 0) from (range_with_len (from + 1) (length bs)) ∙
      ap (λ v. cond v 1 0 + count_by t (range_with_len (from + 1) (length bs))) (first t from b bs h) ∙
      ap (λ n. cond (eqb (length b) 0) 1 0 + n) (vacant_counted t (from + 1) bs (others t from b bs h))

  -- the first number that passes the test is the lowest that is free
  lowest_found : (t : ℕ → Bool) (from : ℕ) (bs : List (List F)) → Tests t from bs → find t (range_with_len from (length bs)) ≡ lowest_from from bs
  lowest_found t from [] h = refl
  lowest_found t from (b ∷ bs) h =
      ap (λ v. cond v (Some from) (find t (range_with_len (from + 1) (length bs)))) (first t from b bs h) ∙
      ap (cond (eqb (length b) 0) (Some from)) (lowest_found t (from + 1) bs (others t from b bs h))

  -- whether the block of a number is empty
  abbrev pub empty : List (List F) → ℕ → Bool
  empty bs n = eqb (length (get_or bs n [])) 0

  pub vacant_numbers : (bs : List (List F)) → count_by (empty bs) (range_with_len 0 (length bs)) ≡ vacant bs
  vacant_numbers bs = vacant_counted (empty bs) 0 bs (λ i lt. ap (empty bs) (zero-add i))

  pub lowest_number : (bs : List (List F)) → find (empty bs) (range_with_len 0 (length bs)) ≡ lowest_from 0 bs
  lowest_number bs = lowest_found (empty bs) 0 bs (λ i lt. ap (empty bs) (zero-add i))

  -- what the lowest free number of blocks that are numbered from a number on tells
  abbrev pub Lowest : ℕ → List (List F) → Option ℕ → Type 0
  Lowest from bs None = vacant bs ≡ 0
  Lowest from bs (Some n) = (from ≤ n) × (n < from + length bs) × (get_or bs (n - from) [] ≡ []) × (vacant bs ≢ 0)

  -- a block at the front takes no part where it is not empty
  behind : (from : ℕ) (b : List F) (bs : List (List F)) (o : Option ℕ) → length b ≢ 0 → Lowest (from + 1) bs o → Lowest from (b ∷ bs) o
  behind from b bs None some h = ap (λ t. cond t 1 0 + vacant bs) (ne_eqb (length b) 0 some) ∙ omega arith
  behind from b bs (Some n) some h =
      let e : n - from ≡ suc (n - (from + 1)) = omega arith in
      let none = ap (λ t. cond t 1 0 + vacant bs) (ne_eqb (length b) 0 some) in
      (omega arith, omega arith, ap (λ k. get_or (b ∷ bs) k []) e ∙ h.2, λ z. h.3 (omega arith))

  pub lowest_tells : (from : ℕ) (bs : List (List F)) → Lowest from bs (lowest_from from bs)
  lowest_tells from [] = refl
  lowest_tells from (b ∷ bs) =
      cond_both (eqb (length b) 0) (Some from) (lowest_from (from + 1) bs) (Lowest from (b ∷ bs))
      (λ e.
      let here : from - from ≡ 0 = omega arith in
      let one = ap (λ t. cond t 1 0 + vacant bs) e in
      (omega arith, omega arith, ap (λ k. get_or (b ∷ bs) k []) here ∙ nil_from_length b (eqb-true (length b) 0 e), λ z. omega arith))
      (λ e. behind from b bs (lowest_from (from + 1) bs) (eqb-false (length b) 0 e) (lowest_tells (from + 1) bs))
