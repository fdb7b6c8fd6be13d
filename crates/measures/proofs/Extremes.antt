-- The extent of some frames bounds each of their numbers and reaches one. Assumes nothing.
use Rattle.std.proofs.Common.{◌≡◌, ◌⊎◌, List, [], ◌∷◌, ℤ, pos, negsuc, ◌≤ℤ◌, sym, refl, ap, ◌∙◌, subst, inl, inr, ⊎_elim, arith}
use lib.Signed.{lt_z}
use Rattle.std.specs.Int.{int_max, int_min}
use Rattle.std.specs.List.{AllByRecursion}
use Rattle.std.proofs.lemmas.Int.{ints, clamps}
use Rattle.std.proofs.lemmas.Bool.{cond_both}
use Rattle.frames.specs.declared.frame.Frame as frame
use Rattle.measures.specs.Measured.{measured}
use Rattle.measures.specs.Extents.{frame_extent, no_extent, wider}
use Rattle.measures.specs.Meanings.{Extreme, Reaches}
use Rattle.measures.specs.declared.extent.Extent.{Extent}
use Rattle.measures.specs.Ends.{min_top_right, max_end_right}

-- of two numbers `pick` takes the one that stands in the order R to both; `end` is never taken
module _ (R : ℤ → ℤ → Type 0) (pick : ℤ → ℤ → ℤ) (end : ℤ) (first : (a b : ℤ) → R (pick a b) a) (second : (a b : ℤ) → R (pick a b) b) (steps : (a b c : ℤ) → R a b → R b c → R a c) (either : (a b : ℤ) → (pick a b ≡ a) ⊎ (pick a b ≡ b)) where
  further : {K : Type 0} (number : K → ℤ) (v w : ℤ) → R v w → (xs : List K) → AllByRecursion (λ x. R w (number x)) xs → AllByRecursion (λ x. R v (number x)) xs
  further number v w le [] all = tt
  further number v w le (x ∷ xs) all = (steps v w (number x) le all.0, further number v w le xs all.1)

  -- what is picked from the numbers of all the frames
  abbrev pub picked : {K : Type 0} → (K → ℤ) → List K → ℤ
  picked number [] = end
  picked number (x ∷ xs) = pick (number x) (picked number xs)

  pub picked_extreme : {K : Type 0} (number : K → ℤ) → ((x : K) → pick (number x) end ≡ number x) → (x : K) (xs : List K) → Extreme R number (x ∷ xs) (picked number (x ∷ xs))
  picked_extreme number narrow x [] =
      ((first (number x) end, tt), (x, ([], [], refl), narrow x))
  picked_extreme number narrow x (y ∷ ys) =
      let rest = picked_extreme number narrow y ys in
      let w = picked number (y ∷ ys) in
      let v = pick (number x) w in
      let met = rest.1 in (
        (first (number x) w, further number v w (second (number x) w) (y ∷ ys) rest.0),
        ⊎_elim
            (λ e. (x, ([], y ∷ ys, refl), e))
            (λ e. (met.0, (x ∷ met.1.0, met.1.1, ap (λ zs. x ∷ zs) met.1.2), e ∙ met.2))
            (either (number x) w),
      )

min_either : (a b : ℤ) → (int_min a b ≡ a) ⊎ (int_min a b ≡ b)
min_either a b = cond_both (lt_z b a) b a (λ v. (v ≡ a) ⊎ (v ≡ b)) (λ _. inr refl) (λ _. inl refl)

max_either : (a b : ℤ) → (int_max a b ≡ a) ⊎ (int_max a b ≡ b)
max_either a b = cond_both (lt_z b a) a b (λ v. (v ≡ a) ⊎ (v ≡ b)) (λ _. inl refl) (λ _. inr refl)

min_first : (a b : ℤ) → int_min a b ≤ℤ a
min_first a b = omega (arith, ints, clamps)

min_second : (a b : ℤ) → int_min a b ≤ℤ b
min_second a b = omega (arith, ints, clamps)

max_first : (a b : ℤ) → a ≤ℤ int_max a b
max_first a b = omega (arith, ints, clamps)

max_second : (a b : ℤ) → b ≤ℤ int_max a b
max_second a b = omega (arith, ints, clamps)

up : (a b c : ℤ) → a ≤ℤ b → b ≤ℤ c → a ≤ℤ c
up a b c f g = omega (arith, ints)

module _ {K : Type 0} (kind : frame.Ghosts K) where
  abbrev extent : List K → Extent
  extent xs = measured (frame_extent kind) wider no_extent xs

  abbrev lowest : List K → ℤ
  lowest xs = picked (λ v z. v ≤ℤ z) int_min (pos 2147483647) min_first min_second up min_either kind.least xs

  abbrev highest : List K → ℤ
  highest xs = picked (λ v z. z ≤ℤ v) int_max (negsuc 2147483647) max_first max_second (λ a b c f g. up c b a g f) max_either kind.greatest xs

  extent_low : (xs : List K) → (extent xs).low ≡ lowest xs
  extent_low [] = refl
  extent_low (x ∷ xs) = ap (int_min (kind.least x)) (extent_low xs)

  extent_high : (xs : List K) → (extent xs).high ≡ highest xs
  extent_high [] = refl
  extent_high (x ∷ xs) = ap (int_max (kind.greatest x)) (extent_high xs)

  pub extent_reaches : (xs : List K) → Reaches kind xs (extent xs)
  extent_reaches [] some = absurd (omega arith)
  extent_reaches (x ∷ xs) some = (
    subst (Extreme (λ v z. v ≤ℤ z) kind.least (x ∷ xs)) (sym (extent_low (x ∷ xs)))
        (picked_extreme (λ v z. v ≤ℤ z) int_min (pos 2147483647) min_first min_second up min_either kind.least (λ y. min_top_right (kind.least y) (kind.narrow y).0) x xs),
    subst (Extreme (λ v z. z ≤ℤ v) kind.greatest (x ∷ xs)) (sym (extent_high (x ∷ xs)))
        (picked_extreme (λ v z. z ≤ℤ v) int_max (negsuc 2147483647) max_first max_second (λ a b c f g. up c b a g f) max_either kind.greatest (λ y. max_end_right (kind.greatest y) (kind.narrow y).1) x xs),
  )
