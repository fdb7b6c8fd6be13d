-- The energy of frames is the sum of theirs, up to the stop, which few frames do not reach. Assumes nothing.
use Rattle.std.proofs.Common.{◌≡◌, ℕ, ◌+◌, ◌^◌, ◌≤◌, min, List, [], ◌∷◌, length, sym, refl, ap, ◌∙◌, arith}
use Rattle.std.specs.List.{sum_by}
use Rattle.std.proofs.lemmas.List.Sums.{sum_by-cons, sum_by-le}
use Rattle.measures.specs.Measured.{measured}
use Rattle.measures.specs.Energies.{capped_energy, added}

stops_once : (a t m : ℕ) → min (min a m + min t m) m ≡ min (a + t) m
stops_once a t m = omega arith

module _ {K : Type 0} (f : K → ℕ) where
  pub energy_total : (xs : List K) → (measured (λ x. capped_energy (f x)) added (capped_energy 0) xs).sum ≡ min (sum_by f xs) (2 ^ 53)
  energy_total [] = refl
  energy_total (x ∷ xs) =
      ap (λ n. min (min (f x) (2 ^ 53) + n) (2 ^ 53)) (energy_total xs)
      ∙ stops_once (f x) (sum_by f xs) (2 ^ 53)
      ∙ ap (λ n. min n (2 ^ 53)) (sym (sum_by-cons f x xs))

  -- 2 ^ 22 frames of at most 2 ^ 31 each
  pub few_total : ((x : K) → f x ≤ 2 ^ 31) → (xs : List K) → length xs ≤ 2 ^ 22 → min (sum_by f xs) (2 ^ 53) ≡ sum_by f xs
  few_total bound xs few = omega (arith, sum_by-le f (2 ^ 31) xs (λ k d _. bound _))
