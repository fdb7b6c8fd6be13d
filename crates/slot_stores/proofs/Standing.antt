-- Every check of an image that was reached is right.
use Rattle.std.proofs.Common.{◌≡◌, ℕ, ◌+◌, ◌*◌, ◌<◌, ◌≤◌, List, [], ◌++◌, length, get_or, take, drop, set, Ok, Err, vec_items, sym, ap, ◌∙◌, subst, inl, inr, ⊎_elim, arith, get_or-set_other, get_or-set_same}
use lib.Seq.{paste}
use Rattle.std.specs.List.{flat_map}
use Rattle.std.proofs.lemmas.List.{take_at}
use Rattle.std.proofs.lemmas.Bool.{cases_eq}
use Rattle.frames.specs.declared.frame.Frame as frame
use Rattle.stores.specs.Meaning.{block, holding}
use Rattle.stores.proofs.Refusals.{put_passes}
use Rattle.slot_stores.specs.declared.image.ImageStore.{ImageStore}
use Rattle.slot_stores.specs.Checks.{no_check, summed}
use Rattle.slot_stores.specs.Image.{checked_bytes, four, image_slots, imaged, no_length, slot, slot_bytes, slot_check, written}
use Rattle.slot_stores.specs.Reached.{Reached, begins, puts, reads, releases, rearms, ChecksStand}
use Rattle.slot_stores.proofs.Numbered.{apart, equals_at, limit_of, numbered_length}
use Rattle.slot_stores.proofs.Pasted.{pasted_apart, pasted_front}
use Rattle.slot_stores.proofs.Framed.{joined_length}
use Rattle.slot_stores.proofs.Checked.{four_back, written_length}
use Rattle.slot_stores.proofs.InImage.{block_room, inside, slot_room, image_freed, image_put, taken_slot}
use Rattle.slot_stores.proofs.Cleared.{image_empty}

module _ {F : Type 0} (kind : frame.Ghosts F) where
  abbrev Right : List ℕ → Type 0
  Right s = slot_check s ≡ summed no_check (checked_bytes kind.wide s)

  -- every slot of an image that holds a block is right
  abbrev Stands : ℕ → List ℕ → Type 0
  Stands limit xs = (n : ℕ) → 0 < length (block (imaged kind.wide kind.decoded limit xs) n) → Right (slot xs (slot_bytes kind.wide limit) n)

  module _ (long : (f : F) → length (kind.encoded f) ≡ kind.wide) where
    -- what a put writes is right, whatever follows it
    written_right : (b : List F) (rest : List ℕ) → length b ≤ 65536 → Right (written kind.encoded b ++ rest)
    written_right b rest short =
        sym (ap (λ n. summed no_check (four (length b) ++ take (n * kind.wide) (flat_map kind.encoded b ++ rest))) (four_back (length b) short) ∙
        ap (λ l. summed no_check (four (length b) ++ l)) (take_at (flat_map kind.encoded b) rest (length b * kind.wide) (joined_length kind.encoded kind.wide long b)))

  -- one slot is written over from its front, and then holds no block or is right
  rewritten : (limit : ℕ) (xs : List ℕ) (i : ℕ) (s : List ℕ) (b : List F) → i < image_slots kind.wide limit xs → length s ≤ slot_bytes kind.wide limit
      → imaged kind.wide kind.decoded limit (paste xs (i * slot_bytes kind.wide limit) s (length s)) ≡ holding (imaged kind.wide kind.decoded limit xs) i b
      → (0 < length b → Right (s ++ drop (length s) (slot xs (slot_bytes kind.wide limit) i)))
      → Stands limit xs → Stands limit (paste xs (i * slot_bytes kind.wide limit) s (length s))
  rewritten limit xs i s b h short is right before k some =
      let size = slot_bytes kind.wide limit in
      let room = slot_room kind.wide limit xs i h in
      let bs = (imaged kind.wide kind.decoded limit xs).blocks in
      let ys = paste xs (i * size) s (length s) in
      let held : block (imaged kind.wide kind.decoded limit ys) k ≡ get_or (set bs i b) k [] = ap (λ m. block m k) is in
      let taken : 0 < length (get_or (set bs i b) k []) = subst (λ l. 0 < length l) held some in
      ⊎_elim
      (λ e.
      let here : i < length bs = subst (λ n. i < n) (sym (numbered_length _ (image_slots kind.wide limit xs))) h in
      let new = ap (λ j. get_or (set bs i b) j []) e ∙ get_or-set_same bs i b [] here in
      subst (λ j. Right (slot ys size j)) (sym e)
      (subst Right (sym (pasted_front xs (i * size) size s short room)) (right (subst (λ l. 0 < length l) new taken))))
      (λ ne.
      let away = ⊎_elim (λ p. inl p) (λ q. inr (omega arith)) (apart i k size size ne (omega arith)) in
      subst Right (sym (pasted_apart xs (i * size) s (k * size) size (omega arith) away))
      (before k (subst (λ l. 0 < length l) (get_or-set_other bs i k b [] ne) taken)))
      (cases_eq k i)

  module _ (long : (f : F) → length (kind.encoded f) ≡ kind.wide) (back : (f : F) → kind.decoded (kind.encoded f) ≡ f) where
    put_stands : (limit : ℕ) (xs : List ℕ) (i : ℕ) (b : List F) → i < image_slots kind.wide limit xs → length b ≤ limit → Stands limit xs
        → Stands limit (paste xs (i * slot_bytes kind.wide limit) (written kind.encoded b) (6 + length b * kind.wide))
    put_stands limit xs i b h short before =
        let size = slot_bytes kind.wide limit in
        let w = written kind.encoded b in
        let len = written_length kind.encoded kind.wide long b in
        let fits = block_room kind.wide limit (length b) short in
        let small : length b ≤ 65536 = omega (arith, limit_of limit size (length xs) i h) in
        let is = ap (λ n. imaged kind.wide kind.decoded limit (paste xs (i * size) w n)) len ∙ image_put kind.wide kind.decoded limit xs i h kind.encoded long back b short in
        subst (λ n. Stands limit (paste xs (i * size) w n)) len
        (rewritten limit xs i w b h (omega arith) is (λ _. written_right long b (drop (length w) (slot xs size i)) small) before)

    freed_stands : (limit : ℕ) (xs : List ℕ) (i : ℕ) → i < image_slots kind.wide limit xs → Stands limit xs
        → Stands limit (paste xs (i * slot_bytes kind.wide limit) no_length 4)
    freed_stands limit xs i h before =
        rewritten limit xs i no_length [] h (omega arith) (image_freed kind.wide kind.decoded limit xs i h) (λ some. absurd (omega arith)) before

    stands : {s : ImageStore F} → Reached kind s → Stands s.limit (vec_items s.bytes)
    stands (begins {s = s} given limit is) = λ n some.
        let empty = ap (λ l. imaged kind.wide kind.decoded l (vec_items s.bytes)) is.0 ∙ ap (imaged kind.wide kind.decoded limit) is.1 ∙ image_empty kind.wide kind.decoded limit given in
        let none = ap (λ m. length (block m n)) empty ∙ ap length (equals_at (image_slots kind.wide limit given) n []) in
        absurd (omega arith)
    stands (puts {s = s} {t = t} before frames (Ok n) promised bytes) =
        let limit = s.limit in
        let xs = vec_items s.bytes in
        let same : t.limit ≡ limit = ap (λ m. m.limit) promised.3 in
        let short = (put_passes (imaged kind.wide kind.decoded limit xs) (length frames) promised.0).1 in
        subst (λ l. Stands l (vec_items t.bytes)) (sym same)
        (subst (Stands limit) (sym bytes) (put_stands limit xs n frames (inside kind.wide kind.decoded limit xs n promised.1) short (stands before)))
    stands (puts before frames (Err f) promised bytes) = subst (λ u. Stands u.limit (vec_items u.bytes)) (sym bytes) (stands before)
    stands (reads before same) = subst (λ u. Stands u.limit (vec_items u.bytes)) (sym same) (stands before)
    stands (releases {s = s} {t = t} before n (Ok u) promised bytes) =
        let limit = s.limit in
        let xs = vec_items s.bytes in
        let same : t.limit ≡ limit = ap (λ m. m.limit) promised.1 in
        let lt = taken_slot kind.wide kind.decoded limit xs n (λ e. omega (arith, promised.0)) in
        subst (λ l. Stands l (vec_items t.bytes)) (sym same)
        (subst (Stands limit) (sym bytes) (freed_stands limit xs n lt (stands before)))
    stands (releases before n (Err f) promised bytes) = subst (λ u. Stands u.limit (vec_items u.bytes)) (sym bytes) (stands before)
    stands (rearms before same) = subst (λ u. Stands u.limit (vec_items u.bytes)) (sym same) (stands before)

    pub checks_stand_lem : ChecksStand kind
    checks_stand_lem s reached = stands reached
