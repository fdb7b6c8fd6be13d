-- The header of a slot, and what a put writes.
use Rattle.std.proofs.Common.{◌≡◌, ℕ, ◌+◌, ◌*◌, ◌/◌, ◌%◌, ◌≤◌, List, [], ◌∷◌, length, refl, arith}
use Rattle.slot_stores.specs.Image.{slot_length, written}
use Rattle.slot_stores.proofs.Framed.{joined_length}

-- four bytes give a length back
pub four_back : (n : ℕ) → n ≤ 65536 → n % 256 + 256 * (n / 256 % 256) + 65536 * (n / 65536 % 256) + 16777216 * (n / 16777216 % 256) ≡ n
four_back n h = omega arith

-- a slot that begins with the length 0 is free
pub slot_zero : (r : List ℕ) → slot_length (0 ∷ 0 ∷ 0 ∷ 0 ∷ r) ≡ 0
slot_zero [] = refl
slot_zero (x ∷ []) = refl
slot_zero (x ∷ y ∷ r) = refl

module _ {F : Type 0} (encode : F → List ℕ) (width : ℕ) (long : (f : F) → length (encode f) ≡ width) where
  pub written_length : (xs : List F) → length (written encode xs) ≡ 6 + length xs * width
  written_length xs = omega (arith, joined_length encode width long xs)
