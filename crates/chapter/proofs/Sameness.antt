-- Frames with the same bytes are the same, by the laws of their kind.
use Rattle.std.proofs.Common.{◌≡◌, true, Bool, nat_eq, ℕ, ◌≤◌, List, length, take, drop, Ok, Err, Result, arith, sym, ap, ◌∙◌}
use Rattle.std.proofs.Math.Seq.{take-append_seam}
use Rattle.std.specs.Cmp.Lexicographic.{pointwise}
use Rattle.std.proofs.lemmas.Slice.Eq.{slice_eq-Decides}
use Rattle.std.proofs.lemmas.Bool.Decides.{Decides-eqb}
use Rattle.frames.specs.Written.{Written}

-- a buffer with room for them begins with the bytes that were written
pub begins : {U E : Type 0} (xs was is : List ℕ) (r : Result U E) → length xs ≤ length was → Written xs was is r → take (length xs) is ≡ xs
begins xs was is (Ok _) room w = ap (take (length xs)) w.1 ∙ take-append_seam xs (drop (length xs) was)
begins xs was is (Err _) room w = absurd (omega (arith, room, w.0))

-- what `==` holds of is the same list
pub same_list : (xs ys : List ℕ) (r : Bool) → r ≡ pointwise nat_eq xs ys → r ≡ true → xs ≡ ys
same_list xs ys r is equal = (slice_eq-Decides Decides-eqb xs ys r is).0 equal

-- equal bytes are those of equal frames
pub same_frame : {F : Type 0} (encoded : F → List ℕ) (decoded : List ℕ → F) → ((x : F) → decoded (encoded x) ≡ x) → (a b : F) → encoded a ≡ encoded b → a ≡ b
same_frame encoded decoded decodes a b e = sym (decodes a) ∙ ap decoded e ∙ decodes b
