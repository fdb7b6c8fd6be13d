-- The memory store: block i lies from frame i * limit of a list of frames.
use Rattle.std.specs.Prelude.{◌≡◌, ℕ, ◌*◌, false, List, length, take, drop, Ok, Err, vec_items, Result, slice_index}
use Rattle.std.proofs.Common.{arith, length-take}
use Rattle.std.proofs.Math.Seq.{paste}
use Rattle.stores.specs.declared.fault.StoreFault.{StoreFault}
use Rattle.stores.specs.Meaning.{Meaning, WithinLimit}
use Rattle.slot_stores.specs.declared.memory.MemoryStore.{MemoryStore}
use Rattle.slot_stores.specs.Slots.{numbered, numbered_fitting}

module _ {F : Type 0} where
  -- the block of a slot, by the frames, the block limit and the lengths of the blocks
  abbrev pub slot_frames : List F → ℕ → List ℕ → ℕ → List F
  slot_frames frames limit lengths i = take (slice_index lengths i) (drop (i * limit) frames)

  -- what a memory store means; it is never ailing
  abbrev pub memory : MemoryStore F → Meaning F
  memory s = record { limit = s.limit; ailing = false; blocks = numbered (slot_frames (vec_items s.frames) s.limit s.lengths) s.slots }

  pub memory_fitting : (s : MemoryStore F) → WithinLimit (memory s)
  memory_fitting s =
      numbered_fitting (slot_frames (vec_items s.frames) s.limit s.lengths) s.limit
      (λ i. omega (arith, s.sized i, length-take (slice_index s.lengths i) (drop (i * s.limit) (vec_items s.frames)))) 0 s.slots

  -- a put writes its frames at the front of its slot, and no other frame
  abbrev pub PutFrames : MemoryStore F → List F → Result ℕ StoreFault → MemoryStore F → Type 0
  PutFrames s frames (Ok n) t = vec_items t.frames ≡ paste (vec_items s.frames) (n * s.limit) frames (length frames)
  PutFrames s frames (Err _) t = t.frames ≡ s.frames
