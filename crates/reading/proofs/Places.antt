-- Which part of a list a place falls into. Assumes nothing.
use Rattle.std.proofs.Common.{◌≡◌, ℕ, ◌+◌, ◌-◌, ◌<◌, ◌≤◌, ltb, List, [], ◌∷◌, ◌++◌, length, get_or, take, drop, sum_by, Option, sym, ap, ◌∙◌, subst, arith, length-append, take-append-drop}
use Rattle.std.specs.List.{AllByRecursion, flat_map}
use Rattle.std.proofs.lemmas.List.{drop_more}
use Rattle.std.proofs.lemmas.List.Sums.{sum_by-cons}
use Rattle.std.proofs.lemmas.Bool.{cond-true, cond-false, lt-ltb, le-ltb}
use Rattle.reading.specs.Rows.{located}

module _ {X : Type 0} (size : X → ℕ) where
  -- a place within x, which stands behind others
  pub located_in : (inside : X → ℕ → Option ℕ) (before : List X) (x : X) (behind : List X) (k : ℕ) → sum_by size before ≤ k → k < sum_by size before + size x → located size inside (before ++ x ∷ behind) k ≡ inside x (k - sum_by size before)
  located_in inside [] x behind k low high =
      cond-true (ltb k (size x)) _ _ (lt-ltb k (size x) (omega arith)) ∙ ap (inside x) (omega arith)
  located_in inside (y ∷ before) x behind k low high =
      let sum = sum_by-cons size y before in
      cond-false (ltb k (size y)) _ _ (le-ltb k (size y) (omega arith))
      ∙ located_in inside before x behind (k - size y) (omega arith) (omega arith)
      ∙ ap (inside x) (omega arith)

  -- parts that have their sizes are as long together as the sizes say
  pub length-joined : {A : Type 0} (f : X → List A) (P : X → Type 0) → ((x : X) → P x → length (f x) ≡ size x) → (xs : List X) → AllByRecursion P xs → length (flat_map f xs) ≡ sum_by size xs
  length-joined f P sized [] all = omega arith
  length-joined f P sized (x ∷ xs) all = omega (arith, length-append (f x) (flat_map f xs), sized x all.0, length-joined f P sized xs all.1, sum_by-cons size x xs)

-- an element read of a list, with those before and behind it
pub split_at : {X : Type 0} (xs : List X) (i : ℕ) (x : X) → i < length xs → x ≡ get_or xs i x → xs ≡ take i xs ++ x ∷ drop (i + 1) xs
split_at xs i x here read = sym (take-append-drop i xs) ∙ ap (λ z. take i xs ++ z) (drop_more xs i x here ∙ ap (λ z. z ∷ drop (i + 1) xs) (sym read))

-- what holds of each element holds in both parts of a list
pub all_parts : {X : Type 0} (P : X → Type 0) (xs ys : List X) → AllByRecursion P (xs ++ ys) → AllByRecursion P xs × AllByRecursion P ys
all_parts P [] ys h = (tt, h)
all_parts P (x ∷ xs) ys h = let r = all_parts P xs ys h.1 in ((h.0, r.0), r.1)

-- and of the parts before and behind an element, and of the element
pub all_around : {X : Type 0} (P : X → Type 0) (xs before : List X) (x : X) (behind : List X) → xs ≡ before ++ x ∷ behind → AllByRecursion P xs → AllByRecursion P before × P x
all_around {X} P xs before x behind split all =
    let Q : List X → Type 0 = AllByRecursion P in
    let r = all_parts P before (x ∷ behind) (subst Q split all) in
    (r.0, r.1.0)

-- and of the element at an index
pub all_at : {X : Type 0} (P : X → Type 0) (xs : List X) (i : ℕ) (x : X) → i < length xs → x ≡ get_or xs i x → AllByRecursion P xs → P x
all_at P xs i x here read all = (all_around P xs (take i xs) x (drop (i + 1) xs) (split_at xs i x here read) all).1
