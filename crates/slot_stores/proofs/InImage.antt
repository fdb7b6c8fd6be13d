-- What an image means, by its bytes, and how that changes with them.
use Rattle.std.proofs.Common.{◌≡◌, ℕ, ◌+◌, ◌*◌, ◌<◌, ◌≤◌, false, cond, leb, ◌≢◌, List, [], ◌∷◌, ◌++◌, length, get_or, take, drop, Ok, sym, refl, ap, ◌∙◌, subst, inl, inr, ⊎_elim, mul-le-mul_right, mul_comm, add-mul, arith, length-drop, length-take, get_or-drop, get_or-take}
use lib.Seq.{paste}
use Rattle.std.specs.List.{flat_map}
use Rattle.std.proofs.lemmas.List.{same_lists, drop-drop}
use Rattle.std.proofs.lemmas.List.FromFn.{length-map-range_with_len, get_or-map-range_with_len}
use Rattle.std.proofs.lemmas.Bool.{cond_both, le-leb, cases_lt}
use Rattle.stores.specs.Promise.{placed}
use Rattle.stores.proofs.Refusals.{put_passes, place_found}
use Rattle.stores.specs.Meaning.{holding, block, capacity}
use Rattle.slot_stores.specs.Slots.{count_of_slots, numbered}
use Rattle.slot_stores.specs.Image.{slot, slot_block, slot_bytes, length_in_slot, image_slots, imaged, imaged_fitting, decoded, no_length, written}
use Rattle.slot_stores.proofs.Numbered.{apart, within, limit_of, slots_fit, numbered_set, numbered_at, numbered_past, numbered_length}
use Rattle.slot_stores.proofs.Pasted.{pasted_apart, paste_length, pasted_front, take_inner}
use Rattle.slot_stores.proofs.Framed.{decoded_back}
use Rattle.slot_stores.proofs.Checked.{four_back, slot_zero, written_length}

pub slot_room : (width limit : ℕ) (xs : List ℕ) (i : ℕ) → i < image_slots width limit xs → i * slot_bytes width limit + slot_bytes width limit ≤ length xs
slot_room width limit xs i h =
    omega (arith, within i (image_slots width limit xs) (slot_bytes width limit) h, slots_fit limit (slot_bytes width limit) (length xs))

-- what a put writes of a block has room in a slot
pub block_room : (width limit count : ℕ) → count ≤ limit → 6 + count * width ≤ slot_bytes width limit
block_room width limit count short = let m = mul-le-mul_right {m = count} {n = limit} width short in omega (arith, mul_comm width limit)

-- a block of no frames
pub nothing : {F : Type 0} (width : ℕ) (decode : List ℕ → F) (limit : ℕ) (bs : List ℕ) → decoded width decode (cond (leb 0 limit) 0 0) bs ≡ []
nothing width decode limit bs = cond_both (leb 0 limit) 0 0 (λ n. decoded width decode n bs ≡ []) (λ _. refl) (λ _. refl)

module _ {F : Type 0} (width : ℕ) (decode : List ℕ → F) (limit : ℕ) (xs : List ℕ) (i : ℕ) (h : i < image_slots width limit xs) where
  pub image_set : (s : List ℕ) (b : List F) → length s ≤ slot_bytes width limit
      → slot_block width decode limit (s ++ drop (length s) (slot xs (slot_bytes width limit) i)) ≡ b
      → imaged width decode limit (paste xs (i * slot_bytes width limit) s (length s)) ≡ holding (imaged width decode limit xs) i b
  image_set s b short is =
      let size = slot_bytes width limit in
      let at = i * size in
      let room = slot_room width limit xs i h in
      let fits : at + length s ≤ length xs = omega arith in
      let ys = paste xs at s (length s) in
      let held : ℕ → List F = λ k. slot_block width decode limit (slot xs size k) in
      let held' : ℕ → List F = λ k. slot_block width decode limit (slot ys size k) in
      ap (λ bs. record { limit = limit; ailing = false; blocks = bs })
      (ap (λ n. numbered held' (count_of_slots limit size n)) (paste_length xs at s fits) ∙
      numbered_set held held' (image_slots width limit xs) i b h
      (ap (slot_block width decode limit) (pasted_front xs at size s short room) ∙ is)
      (λ k _ ne. ap (slot_block width decode limit)
      (pasted_apart xs at s (k * size) size fits (⊎_elim (λ p. inl p) (λ q. inr (omega arith)) (apart i k size size ne (omega arith))))))

  pub image_freed : imaged width decode limit (paste xs (i * slot_bytes width limit) no_length 4) ≡ holding (imaged width decode limit xs) i []
  image_freed =
      let rest = drop 4 (slot xs (slot_bytes width limit) i) in
      image_set no_length [] (omega arith)
      (ap (λ n. decoded width decode (cond (leb n limit) n 0) (drop 6 (0 ∷ 0 ∷ 0 ∷ 0 ∷ rest))) (slot_zero rest) ∙ nothing width decode limit (drop 6 (0 ∷ 0 ∷ 0 ∷ 0 ∷ rest)))

  pub image_put : (encode : F → List ℕ) → ((f : F) → length (encode f) ≡ width) → ((f : F) → decode (encode f) ≡ f) → (b : List F) → length b ≤ limit
      → imaged width decode limit (paste xs (i * slot_bytes width limit) (written encode b) (6 + length b * width)) ≡ holding (imaged width decode limit xs) i b
  image_put encode long back b short =
      let size = slot_bytes width limit in
      let len = written_length encode width long b in
      let fits = block_room width limit (length b) short in
      let rest = drop (length (written encode b)) (slot xs size i) in
      let four_is = four_back (length b) (omega (arith, limit_of limit size (length xs) i h)) in
      ap (λ n. imaged width decode limit (paste xs (i * size) (written encode b) n)) (sym len) ∙
      image_set (written encode b) b (omega arith)
      (ap (λ n. decoded width decode (cond (leb n limit) n 0) (flat_map encode b ++ rest)) four_is ∙
      ap (λ t. decoded width decode (cond t (length b) 0) (flat_map encode b ++ rest)) (le-leb (length b) limit short) ∙
      decoded_back encode width long decode back b rest)

module _ {F : Type 0} (width : ℕ) (decode : List ℕ → F) (limit : ℕ) (xs : List ℕ) (i : ℕ) where
  pub inside : i < capacity (imaged width decode limit xs) → i < image_slots width limit xs
  inside h = subst (λ n. i < n) (numbered_length (λ k. slot_block width decode limit (slot xs (slot_bytes width limit) k)) (image_slots width limit xs)) h

  -- a place for so many frames is that of a slot, which has room for them
  pub place_slot : (count : ℕ) → Ok i ≡ placed (imaged width decode limit xs) count → (i < image_slots width limit xs) × (count ≤ limit)
  place_slot count h =
      let p = place_found (imaged width decode limit xs) count i h in
      (inside p.1, (put_passes (imaged width decode limit xs) count p.0).1)

  pub block_is : i < image_slots width limit xs → block (imaged width decode limit xs) i ≡ slot_block width decode limit (slot xs (slot_bytes width limit) i)
  block_is h = numbered_at (λ k. slot_block width decode limit (slot xs (slot_bytes width limit) k)) (image_slots width limit xs) i h

  pub block_none : image_slots width limit xs ≤ i → block (imaged width decode limit xs) i ≡ []
  block_none h = numbered_past (λ k. slot_block width decode limit (slot xs (slot_bytes width limit) k)) (image_slots width limit xs) i h

  pub block_long : i < image_slots width limit xs → length (block (imaged width decode limit xs) i) ≡ length_in_slot limit (slot xs (slot_bytes width limit) i)
  block_long h =
      let s = slot xs (slot_bytes width limit) i in
      ap length (block_is h) ∙ length-map-range_with_len (λ k. decode (take width (drop (k * width) (drop 6 s)))) 0 (length_in_slot limit s)

  pub taken_slot : length (block (imaged width decode limit xs) i) ≢ 0 → i < image_slots width limit xs
  taken_slot some = ⊎_elim (λ lt. lt) (λ past. absurd (some (ap length (block_none past)))) (cases_lt i (image_slots width limit xs))

  module _ (offset count : ℕ) (some : length (block (imaged width decode limit xs) i) ≢ 0) (fits : offset + count ≤ length (block (imaged width decode limit xs) i)) where
    in_slot : (offset + count) * width ≤ width * limit
    in_slot =
        let le = imaged_fitting width decode limit xs i in
        let m = mul-le-mul_right {m = offset + count} {n = limit} width (omega arith) in
        omega (arith, mul_comm width limit)

    pub part_room : 6 + offset * width + count * width ≤ slot_bytes width limit
    part_room = omega (arith, in_slot, add-mul offset count width)

    pub frames_read : decoded width decode count (take (count * width) (drop (i * slot_bytes width limit + 6 + offset * width) xs)) ≡ take count (drop offset (block (imaged width decode limit xs) i))
    frames_read =
        let size = slot_bytes width limit in
        let at = i * size in
        let from = at + 6 + offset * width in
        let s = slot xs size i in
        let n = length_in_slot limit s in
        let long = block_long (taken_slot some) in
        let f : ℕ → F = λ k. decode (take width (drop (k * width) (take (count * width) (drop from xs)))) in
        let b : ℕ → F = λ k. decode (take width (drop (k * width) (drop 6 s))) in
        let len = length-map-range_with_len f 0 count in
        let blk = block (imaged width decode limit xs) i in
        let len' : length (take count (drop offset blk)) ≡ count = omega (arith, length-take count (drop offset blk), length-drop offset blk) in
        same_lists _ _ (len ∙ sym len') (λ k d h.
        let lt : k < count = subst (λ m. k < m) len h in
        let cell = within k count width lt in
        let cell' = within (offset + k) (offset + count) width (omega arith) in
        let inner : (offset + k) * width + width ≤ width * limit = omega (arith, in_slot) in
        let place : from + k * width ≡ at + (6 + (offset + k) * width) = omega (arith, add-mul offset k width) in
        get_or-map-range_with_len f 0 count k k d lt (omega arith) ∙
        ap decode (
        take_inner width (k * width) (count * width) (drop from xs) cell ∙
        ap (take width) (drop-drop (k * width) from xs ∙ ap (λ m. drop m xs) place ∙ sym (drop-drop (6 + (offset + k) * width) at xs)) ∙
        sym (ap (take width) (drop-drop ((offset + k) * width) 6 s) ∙ take_inner width (6 + (offset + k) * width) size (drop at xs) (omega arith))) ∙
        sym (get_or-take count (drop offset blk) k d lt ∙ get_or-drop offset blk k d ∙ ap (λ l. get_or l (offset + k) d) (block_is (taken_slot some)) ∙
        get_or-map-range_with_len b 0 n (offset + k) (offset + k) d (omega arith) (omega arith)))
