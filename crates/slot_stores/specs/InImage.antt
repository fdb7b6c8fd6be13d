-- The image store: what it means, and each byte of its image after a call.
use Rattle.std.specs.Prelude.{◌≡◌, ℕ, ◌+◌, ◌*◌, List, length, Ok, Err, vec_items, Result}
use Rattle.std.proofs.Math.Seq.{paste}
use Rattle.frames.specs.declared.frame.Frame as frame
use Rattle.stores.specs.declared.fault.StoreFault.{StoreFault}
use Rattle.stores.specs.Meaning.{Meaning, WithinLimit}
use Rattle.slot_stores.specs.declared.image.ImageStore.{ImageStore}
use Rattle.slot_stores.specs.Image.{cleared, image_slots, imaged, imaged_fitting, no_length, slot_bytes, written}

module _ {F : Type 0} (kind : frame.Ghosts F) where
  -- what an image store means
  abbrev pub image : ImageStore F → Meaning F
  image s = imaged kind.wide kind.decoded s.limit (vec_items s.bytes)

  pub image_fitting : (s : ImageStore F) → WithinLimit (image s)
  image_fitting s = imaged_fitting kind.wide kind.decoded s.limit (vec_items s.bytes)

  -- a new store, over the bytes that were given
  abbrev pub Begins : List ℕ → ℕ → ImageStore F → Type 0
  Begins given limit s =
      (s.limit ≡ limit) × (vec_items s.bytes ≡ cleared given (slot_bytes kind.wide limit) (image_slots kind.wide limit given))

  -- a put writes the length, the check and the frames at the front of its slot, and nothing else
  abbrev pub PutBytes : ImageStore F → List F → Result ℕ StoreFault → ImageStore F → Type 0
  PutBytes s frames (Ok n) t =
      vec_items t.bytes ≡ paste (vec_items s.bytes) (n * slot_bytes kind.wide s.limit) (written kind.encoded frames) (6 + length frames * kind.wide)
  PutBytes s frames (Err _) t = t ≡ s

  -- a release writes the length 0, and nothing else
  abbrev pub ReleaseBytes : ImageStore F → ℕ → {U : Type 0} → Result U StoreFault → ImageStore F → Type 0
  ReleaseBytes s n (Ok _) t = vec_items t.bytes ≡ paste (vec_items s.bytes) (n * slot_bytes kind.wide s.limit) no_length 4
  ReleaseBytes s n (Err _) t = t ≡ s
