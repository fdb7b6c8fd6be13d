-- Frames in bytes, one after the other.
use Rattle.std.proofs.Common.{◌≡◌, ℕ, zero, suc, ◌+◌, ◌*◌, ◌<◌, List, [], ◌∷◌, ◌++◌, length, get_or, take, drop, sym, ap, ◌∙◌, subst, append_assoc, suc-mul, zero-mul, arith, length-append}
use Rattle.std.specs.List.{flat_map}
use Rattle.std.proofs.lemmas.List.{same_lists, take_at, drop_at, drop-drop}
use Rattle.std.proofs.lemmas.List.FromFn.{length-map-range_with_len, get_or-map-range_with_len}
use Rattle.slot_stores.specs.Image.{decoded}

module _ {F : Type 0} (encode : F → List ℕ) where
  module _ (width : ℕ) (long : (f : F) → length (encode f) ≡ width) where
    pub joined_length : (xs : List F) → length (flat_map encode xs) ≡ length xs * width
    joined_length [] = sym (zero-mul width)
    joined_length (x ∷ xs) = omega (arith, length-append (encode x) (flat_map encode xs), long x, joined_length xs, suc-mul (length xs) width)

    -- the bytes of one frame among those of many
    pub frame_bytes : (xs : List F) (rest : List ℕ) (k : ℕ) (d : F) → k < length xs → take width (drop (k * width) (flat_map encode xs ++ rest)) ≡ encode (get_or xs k d)
    frame_bytes [] rest k d h = absurd (omega arith)
    frame_bytes (x ∷ xs) rest zero d h =
        ap (λ m. take width (drop m (flat_map encode (x ∷ xs) ++ rest))) (zero-mul width) ∙
        ap (take width) (append_assoc (encode x) (flat_map encode xs) rest) ∙
        take_at (encode x) (flat_map encode xs ++ rest) width (long x)
    frame_bytes (x ∷ xs) rest (suc k) d h =
        let e : suc k * width ≡ width + k * width = omega (arith, suc-mul k width) in
        ap (λ m. take width (drop m (flat_map encode (x ∷ xs) ++ rest))) e ∙
        ap (take width) (sym (drop-drop (k * width) width (flat_map encode (x ∷ xs) ++ rest)) ∙
        ap (drop (k * width)) (ap (drop width) (append_assoc (encode x) (flat_map encode xs) rest) ∙ drop_at (encode x) (flat_map encode xs ++ rest) width (long x))) ∙
        frame_bytes xs rest k d (omega arith)

    -- what is encoded is decoded again
    pub decoded_back : (decode : List ℕ → F) → ((f : F) → decode (encode f) ≡ f) → (xs : List F) (rest : List ℕ)
        → decoded width decode (length xs) (flat_map encode xs ++ rest) ≡ xs
    decoded_back decode back xs rest =
        let f : ℕ → F = λ k. decode (take width (drop (k * width) (flat_map encode xs ++ rest))) in
        let len = length-map-range_with_len f 0 (length xs) in
        same_lists _ _ len (λ k d h.
        let lt : k < length xs = subst (λ m. k < m) len h in
        get_or-map-range_with_len f 0 (length xs) k k d lt (omega arith) ∙ ap decode (frame_bytes xs rest k d lt) ∙ back (get_or xs k d))
