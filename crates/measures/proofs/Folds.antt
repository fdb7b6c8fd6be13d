-- The measure of one list after another is the joining of their measures. Assumes nothing.
use Rattle.std.proofs.Common.{◌≡◌, ℕ, ◌+◌, ◌<◌, List, [], ◌∷◌, ◌++◌, length, get_or, take, sym, ap, ◌∙◌}
use Rattle.std.proofs.lemmas.List.{take_more}
use Rattle.measures.specs.Measured.{measured, Laws}

module _ {K V : Type 0} (worth : K → V) (join : V → V → V) (neutral : V) (laws : Laws join neutral) where
  abbrev all : List K → V
  all xs = measured worth join neutral xs

  pub measured_append : (xs ys : List K) → all (xs ++ ys) ≡ join (all xs) (all ys)
  measured_append [] ys = sym (laws.left (all ys))
  measured_append (x ∷ xs) ys = ap (join (worth x)) (measured_append xs ys) ∙ sym (laws.assoc (worth x) (all xs) (all ys))

  -- a list that is cut in two
  pub measured_parts : (frames front back : List K) → frames ≡ front ++ back → all frames ≡ join (all front) (all back)
  measured_parts frames front back e = ap all e ∙ measured_append front back

  -- one frame more
  pub measured_more : (xs : List K) (i : ℕ) (x : K) → i < length xs → x ≡ get_or xs i x → join (all (take i xs)) (worth x) ≡ all (take (i + 1) xs)
  measured_more xs i x within read =
      let pushed : take (i + 1) xs ≡ take i xs ++ (x ∷ []) = take_more xs i x within ∙ ap (λ y. take i xs ++ (y ∷ [])) (sym read) in
      sym (ap all pushed ∙ measured_append (take i xs) (x ∷ []) ∙ ap (join (all (take i xs))) (laws.right (worth x)))
