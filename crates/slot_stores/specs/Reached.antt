-- The image stores that calls make from a new one, and what holds of all of them.
use Rattle.std.specs.Prelude.{◌≡◌, ℕ, ◌<◌, List, length, vec_items, Result}
use Rattle.frames.specs.declared.frame.Frame as frame
use Rattle.stores.specs.declared.fault.StoreFault.{StoreFault}
use Rattle.stores.specs.Meaning.{block}
use Rattle.stores.specs.Promise.{Puts, Releases}
use Rattle.slot_stores.specs.declared.image.ImageStore.{ImageStore}
use Rattle.slot_stores.specs.Checks.{no_check, summed}
use Rattle.slot_stores.specs.Image.{checked_bytes, slot, slot_bytes, slot_check}
use Rattle.slot_stores.specs.InImage.{image, Begins, PutBytes, ReleaseBytes}

module _ {F : Type 0} (kind : frame.Ghosts F) where
  -- a new store is reached, and from a reached store s each store t that a call leaves it as
  pub data Reached : ImageStore F → Type 0 where
    begins : {s : ImageStore F} (given : List ℕ) (limit : ℕ) → Begins kind given limit s → Reached s
    puts : {s t : ImageStore F} → Reached s → (frames : List F) (r : Result ℕ StoreFault)
        → Puts (image kind s) frames r (image kind t) → PutBytes kind s frames r t → Reached t
    reads : {s t : ImageStore F} → Reached s → t ≡ s → Reached t
    releases : {s t : ImageStore F} → Reached s → (n : ℕ) (r : Result (Unit {0}) StoreFault)
        → Releases (image kind s) n r (image kind t) → ReleaseBytes kind s n r t → Reached t
    rearms : {s t : ImageStore F} → Reached s → t ≡ s → Reached t

  -- the check bytes of every slot that holds a block are the check of its length and its frames
  abbrev pub ChecksStand : Type 0
  ChecksStand =
      (s : ImageStore F) → Reached s → (n : ℕ) → 0 < length (block (image kind s) n)
      → slot_check (slot (vec_items s.bytes) (slot_bytes kind.wide s.limit) n)
      ≡ summed no_check (checked_bytes kind.wide (slot (vec_items s.bytes) (slot_bytes kind.wide s.limit) n))
