-- An image whose slots were freed: it is as long as it was, and all numbers are free.
use Rattle.std.proofs.Common.{◌≡◌, ℕ, zero, suc, ◌+◌, ◌*◌, ◌<◌, ◌≤◌, false, cond, leb, List, [], length, take, drop, refl, ap, ◌∙◌, inl, inr, ⊎_elim, arith}
use lib.Seq.{paste}
use Rattle.std.proofs.lemmas.Bool.{cases_eq}
use Rattle.slot_stores.specs.Slots.{count_of_slots, numbered, unused}
use Rattle.slot_stores.specs.Image.{slot, slot_length, slot_block, slot_bytes, image_slots, imaged, decoded, no_length, cleared}
use Rattle.slot_stores.proofs.Numbered.{apart, within, slots_fit, numbered_same}
use Rattle.slot_stores.proofs.Pasted.{pasted_apart, paste_length, pasted_front}
use Rattle.slot_stores.proofs.Checked.{slot_zero}
use Rattle.slot_stores.proofs.InImage.{nothing}

module _ (xs : List ℕ) (size total : ℕ) (fits : total * size ≤ length xs) (six : 6 ≤ size) where
  pub cleared_length : (n : ℕ) → n ≤ total → length (cleared xs size n) ≡ length xs
  cleared_length zero h = refl
  cleared_length (suc n) h =
      let before = cleared_length n (omega arith) in
      paste_length (cleared xs size n) (n * size) no_length (omega (arith, within n total size (omega arith))) ∙ before

  pub cleared_free : (n k : ℕ) → n ≤ total → k < n → slot_length (slot (cleared xs size n) size k) ≡ 0
  cleared_free zero k h lt = absurd (omega arith)
  cleared_free (suc n) k h lt =
      let before = cleared_length n (omega arith) in
      let ys = cleared xs size n in
      let z = no_length in
      let room : n * size + size ≤ length ys = omega (arith, within n total size (omega arith)) in
      ⊎_elim
      (λ e. ap (λ m. slot_length (slot (paste ys (n * size) z 4) size m)) e ∙ ap slot_length (pasted_front ys (n * size) size z (omega arith) room) ∙ slot_zero (drop 4 (take size (drop (n * size) ys))))
      (λ ne. ap slot_length (pasted_apart ys (n * size) z (k * size) size (omega arith) (⊎_elim (λ p. inl p) (λ q. inr (omega arith)) (apart n k size size ne (omega arith)))) ∙
      cleared_free n k (omega arith) (omega (arith, ne)))
      (cases_eq k n)

-- clearing slots leaves their number
pub cleared_slots : (width limit : ℕ) (xs : List ℕ) (n : ℕ) → n ≤ image_slots width limit xs
    → image_slots width limit (cleared xs (slot_bytes width limit) n) ≡ image_slots width limit xs
cleared_slots width limit xs n h =
    let size = slot_bytes width limit in
    ap (count_of_slots limit size) (cleared_length xs size (image_slots width limit xs) (slots_fit limit size (length xs)) (omega arith) n h)

-- where all slots are cleared, all numbers are free
pub image_empty : {F : Type 0} (width : ℕ) (decode : List ℕ → F) (limit : ℕ) (xs : List ℕ)
    → imaged width decode limit (cleared xs (slot_bytes width limit) (image_slots width limit xs)) ≡ unused limit (image_slots width limit xs)
image_empty {F} width decode limit xs =
    let size = slot_bytes width limit in
    let n = image_slots width limit xs in
    let ys = cleared xs size n in
    let fits = slots_fit limit size (length xs) in
    let six : 6 ≤ size = omega arith in
    let held : ℕ → List F = λ k. slot_block width decode limit (slot ys size k) in
    ap (λ bs. record { limit = limit; ailing = false; blocks = bs })
    (ap (numbered held) (cleared_slots width limit xs n (omega arith)) ∙
    numbered_same held n [] (λ k h.
    ap (λ l. decoded width decode (cond (leb l limit) l 0) (drop 6 (slot ys size k))) (cleared_free xs size n fits six n k (omega arith) h) ∙
    nothing width decode limit (drop 6 (slot ys size k))))
