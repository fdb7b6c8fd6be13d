-- What the memory store's fields say of its blocks.
use Rattle.std.proofs.Common.{◌≡◌, ℕ, ◌+◌, ◌-◌, ◌*◌, ◌<◌, ◌≤◌, ◌≢◌, List, [], length, get_or, take, drop, set, Ok, vec_items, vec_len, sym, ap, ◌∙◌, subst, inl, inr, ⊎_elim, arith, length-drop, length-take, get_or-set_other, get_or-set_same}
use lib.Seq.{paste}
use Rattle.std.proofs.lemmas.List.{take-take, drop-take, drop-drop}
use Rattle.std.proofs.lemmas.Bool.{cases_lt}
use Rattle.slot_stores.specs.declared.memory.MemoryStore.{MemoryStore}
use Rattle.stores.specs.Meaning.{block, capacity}
use Rattle.stores.specs.Promise.{placed}
use Rattle.stores.proofs.Refusals.{put_passes, place_found}
use Rattle.slot_stores.specs.Memory.{memory, slot_frames}
use Rattle.slot_stores.specs.Slots.{numbered}
use Rattle.slot_stores.proofs.Numbered.{numbered_at, numbered_past, numbered_set, numbered_length, within, apart, slots_fit, slots_few}
use Rattle.slot_stores.proofs.Pasted.{pasted_here, pasted_apart}

module _ {F : Type 0} (s : MemoryStore F) where
  pub fits : s.slots * s.limit ≤ length (vec_items s.frames)
  fits =
      let all = subst (λ n. n * s.limit ≤ vec_len s.frames) (sym s.whole) (slots_fit s.limit s.limit (vec_len s.frames)) in
      omega (arith, s.frames.ok.0)

  pub few : s.slots ≤ 1024
  few = subst (λ n. n ≤ 1024) (sym s.whole) (slots_few s.limit s.limit (vec_len s.frames))

  -- a slot lies within the frames
  pub room : (i : ℕ) → i < s.slots → i * s.limit + s.limit ≤ length (vec_items s.frames)
  room i h = omega (arith, within i s.slots s.limit h, fits)

  -- a number that the store has is that of a slot
  inside : (i : ℕ) → i < capacity (memory s) → i < s.slots
  inside i h = subst (λ n. i < n) (numbered_length (slot_frames (vec_items s.frames) s.limit s.lengths) s.slots) h

  -- a place for so many frames is that of a slot, which has room for them
  pub place_slot : (count n : ℕ) → Ok n ≡ placed (memory s) count → (n < s.slots) × (count ≤ s.limit)
  place_slot count n h =
      let p = place_found (memory s) count n h in
      (inside n p.1, (put_passes (memory s) count p.0).1)

  slot_length : (i : ℕ) → i < s.slots → length (slot_frames (vec_items s.frames) s.limit s.lengths i) ≡ get_or s.lengths i 0
  slot_length i h =
      let n = get_or s.lengths i 0 in
      let at = i * s.limit in
      let xs = vec_items s.frames in
      omega (arith, length-take n (drop at xs), length-drop at xs, room i h, s.sized i)

  pub block_at : (i : ℕ) → i < s.slots → block (memory s) i ≡ slot_frames (vec_items s.frames) s.limit s.lengths i
  block_at i h = numbered_at (slot_frames (vec_items s.frames) s.limit s.lengths) s.slots i h

  pub block_past : (i : ℕ) → s.slots ≤ i → block (memory s) i ≡ []
  block_past i h = numbered_past (slot_frames (vec_items s.frames) s.limit s.lengths) s.slots i h

  pub length_in_slot : (i : ℕ) → i < s.slots → length (block (memory s) i) ≡ get_or s.lengths i 0
  length_in_slot i h = ap length (block_at i h) ∙ slot_length i h

  -- a number with a block is that of a slot
  pub taken : (i : ℕ) → length (block (memory s) i) ≢ 0 → i < s.slots
  taken i h = ⊎_elim (λ lt. lt) (λ past. absurd (h (ap length (block_past i past)))) (cases_lt i s.slots)

  -- a part of a block that is there lies within its slot
  pub part_room : (i offset count : ℕ) → length (block (memory s) i) ≢ 0 → offset + count ≤ length (block (memory s) i) → offset + count ≤ s.limit
  part_room i offset count some fits = omega (arith, length_in_slot i (taken i some), s.sized i)

  pub part_is : (i offset count : ℕ) → length (block (memory s) i) ≢ 0 → offset + count ≤ length (block (memory s) i)
      → take count (drop (i * s.limit + offset) (vec_items s.frames)) ≡ take count (drop offset (block (memory s) i))
  part_is i offset count some fits =
      let h = taken i some in
      let n = get_or s.lengths i 0 in
      let ys = drop (i * s.limit) (vec_items s.frames) in
      let long = length_in_slot i h in
      let j = n - offset in
      let e : offset + j ≡ n = omega arith in
      sym (ap (λ b. take count (drop offset b)) (block_at i h) ∙
      ap (λ m. take count (drop offset (take m ys))) (sym e) ∙
      ap (take count) (drop-take offset j ys) ∙
      take-take count j (drop offset ys) (omega arith) ∙
      ap (take count) (drop-drop offset (i * s.limit) (vec_items s.frames)))

-- one slot's block is another, and the frames of the others stay
module _ {F : Type 0} (xs : List F) (limit slots : ℕ) (lengths : List ℕ) where
  pub slot_freed : (i : ℕ) → i < slots → i < length lengths
      → numbered (slot_frames xs limit (set lengths i 0)) slots ≡ set (numbered (slot_frames xs limit lengths) slots) i []
  slot_freed i h lt =
      numbered_set _ _ slots i [] h
      (ap (λ n. take n (drop (i * limit) xs)) (get_or-set_same lengths i 0 0 lt))
      (λ k _ ne. ap (λ n. take n (drop (k * limit) xs)) (get_or-set_other lengths i k 0 0 ne))

  pub slot_filled : (i : ℕ) (b ys : List F) → i < slots → i < length lengths → slots * limit ≤ length xs → ((n : ℕ) → get_or lengths n 0 ≤ limit)
      → length b ≤ limit → ys ≡ paste xs (i * limit) b (length b)
      → numbered (slot_frames ys limit (set lengths i (length b))) slots ≡ set (numbered (slot_frames xs limit lengths) slots) i b
  slot_filled i b ys h lt fits sized short is =
      let at = i * limit in
      let w = within i slots limit h in
      let room : at + length b ≤ length xs = omega arith in
      numbered_set _ _ slots i b h
      (ap (λ n. take n (drop at ys)) (get_or-set_same lengths i (length b) 0 lt) ∙ ap (λ l. take (length b) (drop at l)) is ∙ pasted_here xs at b room)
      (λ k _ ne.
      let n = get_or lengths k 0 in
      let away = ⊎_elim (λ p. inl p) (λ q. inr (omega arith)) (apart i k limit n ne (sized k)) in
      ap (λ m. take m (drop (k * limit) ys)) (get_or-set_other lengths i k (length b) 0 ne) ∙
      ap (λ l. take n (drop (k * limit) l)) is ∙
      pasted_apart xs at b (k * limit) n room away)
