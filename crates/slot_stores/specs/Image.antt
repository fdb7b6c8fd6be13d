-- The image of a store: slots of one size, one after the other. A slot begins with the length of its
-- block in four bytes, low byte first; 0 means free. Then come two check bytes and the frames. A
-- length of more than the limit counts as no block; no call of a store makes such an image.
use Rattle.std.specs.Prelude.{ℕ, zero, suc, ◌+◌, ◌*◌, ◌/◌, ◌%◌, ◌≤◌, false, cond, List, [], ◌∷◌, ◌++◌, map, length, take, drop, nat_le, slice_index}
use Rattle.std.proofs.Common.{arith}
use Rattle.std.proofs.Math.Seq.{paste}
use Rattle.std.proofs.lemmas.Bool.{cond_both, leb-true}
use Rattle.std.proofs.lemmas.List.FromFn.{length-map-range_with_len}
use Rattle.std.specs.List.{range_with_len, flat_map}
use Rattle.stores.specs.Meaning.{Meaning, WithinLimit}
use Rattle.slot_stores.specs.declared.check.Check.{Check}
use Rattle.slot_stores.specs.Checks.{no_check, summed}
use Rattle.slot_stores.specs.Slots.{numbered, numbered_fitting, count_of_slots}

-- a number in four bytes, low byte first
abbrev pub four : ℕ → List ℕ
four n = (n % 256) ∷ (n / 256 % 256) ∷ (n / 65536 % 256) ∷ (n / 16777216 % 256) ∷ []

-- how many bytes a slot has
abbrev pub slot_bytes : ℕ → ℕ → ℕ
slot_bytes width limit = 6 + width * limit

-- a slot of an image, by its number
abbrev pub slot : List ℕ → ℕ → ℕ → List ℕ
slot image size i = take size (drop (i * size) image)

-- how many slots an image has
abbrev pub image_slots : ℕ → ℕ → List ℕ → ℕ
image_slots width limit image = count_of_slots limit (slot_bytes width limit) (length image)

-- the length that a slot begins with
abbrev pub slot_length : List ℕ → ℕ
slot_length (a ∷ b ∷ c ∷ d ∷ first ∷ second ∷ rest) = a + 256 * b + 65536 * c + 16777216 * d
slot_length (a ∷ b ∷ c ∷ d ∷ first ∷ []) = 0
slot_length (a ∷ b ∷ c ∷ d ∷ []) = 0
slot_length (a ∷ b ∷ c ∷ []) = 0
slot_length (a ∷ b ∷ []) = 0
slot_length (a ∷ []) = 0
slot_length [] = 0

-- the length of the block of a slot; a length of more than the limit is none
abbrev pub length_in_slot : ℕ → List ℕ → ℕ
length_in_slot limit s = cond (nat_le (slot_length s) limit) (slot_length s) 0

short : (limit n : ℕ) → cond (nat_le n limit) n 0 ≤ limit
short limit n = cond_both (nat_le n limit) n 0 (λ m. m ≤ limit) (λ e. leb-true n limit e) (λ _. omega arith)

module _ {F : Type 0} (width : ℕ) (decode : List ℕ → F) where
  -- so many frames, each from the next `width` bytes
  abbrev pub decoded : ℕ → List ℕ → List F
  decoded count bytes = map (λ k. decode (take width (drop (k * width) bytes))) (range_with_len 0 count)

  module _ (limit : ℕ) where
    -- the block of a slot
    abbrev pub slot_block : List ℕ → List F
    slot_block s = decoded (length_in_slot limit s) (drop 6 s)

    -- what an image means; it is never ailing
    abbrev pub imaged : List ℕ → Meaning F
    imaged image = record { limit = limit; ailing = false; blocks = numbered (λ i. slot_block (slot image (slot_bytes width limit) i)) (image_slots width limit image) }

    pub imaged_fitting : (image : List ℕ) → WithinLimit (imaged image)
    imaged_fitting image =
        numbered_fitting (λ i. slot_block (slot image (slot_bytes width limit) i)) limit
        (λ i.
        let s = slot image (slot_bytes width limit) i in
        omega (arith, length-map-range_with_len (λ k. decode (take width (drop (k * width) (drop 6 s)))) 0 (length_in_slot limit s), short limit (slot_length s)))
        0 (image_slots width limit image)

-- the check of a block of so many frames whose bytes are `body`
abbrev pub checked : ℕ → List ℕ → Check
checked count body = summed no_check (four count ++ body)

-- what a put writes of a block: length, check and frames
abbrev pub written : {F : Type 0} → (F → List ℕ) → List F → List ℕ
written encode b =
    four (length b) ++ ((checked (length b) (flat_map encode b)).first ∷ (checked (length b) (flat_map encode b)).second ∷ flat_map encode b)

-- the length of a free slot
abbrev pub no_length : List ℕ
no_length = 0 ∷ 0 ∷ 0 ∷ 0 ∷ []

-- the image after the first so many slots were freed: nothing is written but the lengths
abbrev pub cleared : List ℕ → ℕ → ℕ → List ℕ
cleared image size zero = image
cleared image size (suc n) = paste (cleared image size n) (n * size) no_length 4

-- the check bytes of a slot
abbrev pub slot_check : List ℕ → Check
slot_check s = record { first = slice_index s 4; second = slice_index s 5 }

-- the bytes of a slot that its check is of: those of the length, and those of the frames
abbrev pub checked_bytes : ℕ → List ℕ → List ℕ
checked_bytes width s = take 4 s ++ take (slot_length s * width) (drop 6 s)
