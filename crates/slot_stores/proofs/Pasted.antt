-- What stands in a list after a part of it was overwritten.
use Rattle.std.proofs.Common.{◌≡◌, ℕ, ◌+◌, ◌-◌, ◌≤◌, ◌⊎◌, List, ◌++◌, length, take, drop, sym, refl, ap, ◌∙◌, ⊎_elim, arith}
use lib.Seq.{paste, take-append-add}
use borrow.Rule.Slice.PartMut.{put_mid}
use Rattle.std.specs.Vec.{with_items}
use Rattle.std.specs.declared.vec.Vec.{Vec}
use Rattle.std.proofs.lemmas.List.{with_items_is, take_at, drop_at, drop-drop, take-take, drop-take, take-append-le, length-take-le}
use Rattle.std.proofs.lemmas.List.Edits.{length-paste, drop-paste, paste_all}
use Rattle.std.proofs.lemmas.Slice.{put_mid-paste}

module _ {X : Type 0} where
  -- the part itself
  pub pasted_here : (xs : List X) (at : ℕ) (s : List X) → at + length s ≤ length xs → take (length s) (drop at (paste xs at s (length s))) ≡ s
  pasted_here xs at s fits =
      ap (λ l. take (length s) (drop at l)) (paste_all xs at s (length s) refl) ∙
      ap (take (length s)) (drop_at (take at xs) (s ++ drop (at + length s) xs) at (length-take-le at xs (omega arith))) ∙
      take_at s (drop (at + length s) xs) (length s) refl

  -- a part that lies before or after it
  pub pasted_apart : (xs : List X) (at : ℕ) (s : List X) (from n : ℕ) → at + length s ≤ length xs
      → (from + n ≤ at) ⊎ (at + length s ≤ from) → take n (drop from (paste xs at s (length s))) ≡ take n (drop from xs)
  pasted_apart xs at s from n fits away =
      let p = paste xs at s (length s) in
      ⊎_elim
      (λ before.
      let rest = s ++ drop (at + length s) xs in
      let front : length (take at xs) ≡ at = length-take-le at xs (omega arith) in
      sym (drop-take from n p) ∙
      ap (drop from) (
      ap (take (from + n)) (paste_all xs at s (length s) refl) ∙
      take-append-le (from + n) (take at xs) rest (omega arith) ∙
      take-take (from + n) at xs before) ∙
      drop-take from n xs)
      (λ after.
      let j = from - (at + length s) in
      let e : at + length s + j ≡ from = omega arith in
      let split : (l : List X) → drop from l ≡ drop j (drop (at + length s) l) = λ l. ap (λ m. drop m l) (sym e) ∙ sym (drop-drop j (at + length s) l) in
      ap (take n) (split p ∙ ap (drop j) (drop-paste xs at s (length s) (omega arith) (omega arith)) ∙ sym (split xs)))
      away

  pub paste_length : (xs : List X) (at : ℕ) (s : List X) → at + length s ≤ length xs → length (paste xs at s (length s)) ≡ length xs
  paste_length xs at s fits = length-paste xs at s (length s) fits (omega arith)

  -- a part of a vector's items was written over
  pub written_over : {Z : Type 0} (v : Vec X Z) (at k n : ℕ) (all ys zs : List X) → all ≡ v.items → length all ≡ v.len → ys ≡ zs → n ≡ k → n ≡ length zs
      → at + n ≤ v.len → (with_items v (put_mid at k all ys)).items ≡ paste v.items at zs n
  written_over v at k n all ys zs is len same count long fits =
      let pasted = put_mid-paste at k all ys zs n same count long in
      with_items_is v (put_mid at k all ys) (ap length pasted ∙ length-paste all at zs n (omega arith) (omega arith) ∙ len) ∙ pasted ∙ ap (λ l. paste l at zs n) is

  -- a longer part, at the front of which it lies
  pub pasted_front : (xs : List X) (at size : ℕ) (s : List X) → length s ≤ size → at + size ≤ length xs
      → take size (drop at (paste xs at s (length s))) ≡ s ++ drop (length s) (take size (drop at xs))
  pasted_front xs at size s short room =
      let n = length s in
      let j = size - n in
      let e : n + j ≡ size = omega arith in
      let front : length (take at xs) ≡ at = length-take-le at xs (omega arith) in
      ap (λ l. take size (drop at l)) (paste_all xs at s n refl) ∙ ap (take size) (drop_at (take at xs) (s ++ drop (at + n) xs) at front) ∙
      ap (λ k. take k (s ++ drop (at + n) xs)) (sym e) ∙ take-append-add s (drop (at + n) xs) j ∙
      ap (λ l. s ++ l) (ap (take j) (sym (drop-drop n at xs)) ∙ sym (drop-take n j (drop at xs)) ∙ ap (λ k. drop n (take k (drop at xs))) e)

  -- a part of a part
  pub take_inner : (n j m : ℕ) (ys : List X) → j + n ≤ m → take n (drop j (take m ys)) ≡ take n (drop j ys)
  take_inner n j m ys h =
      let r = m - j in
      let e : j + r ≡ m = omega arith in
      ap (λ k. take n (drop j (take k ys))) (sym e) ∙ ap (take n) (drop-take j r ys) ∙ take-take n r (drop j ys) (omega arith)
