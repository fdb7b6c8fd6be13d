-- The stretches that the frames of new blocks come from, and what gathering them gives. Assumes nothing.
use Rattle.std.specs.Prelude.{◌≡◌, ℕ, ◌+◌, ◌-◌, ◌^◌, ◌<◌, ◌≤◌, List, length, take, drop, Some, None, Ok, Err, Option, Result}
use Rattle.std.specs.List.{flat_map, AllByRecursion}
use Rattle.stores.specs.declared.fault.StoreFault.{StoreFault}
use Rattle.stores.specs.Meaning.{Meaning}
use Rattle.reading.specs.declared.stretch.Stretch.{Stretch}
use Rattle.reading.specs.declared.stretch.Stretch.TheVariants.{Row, Given}
use Rattle.reading.specs.Faults.{Fails}
use Rattle.reading.specs.Rows.{frames, Tied, located, block_at}

-- the block b has a frame among the n from `at` on, by the block that each frame is of
abbrev pub Among : (ℕ → Option ℕ) → ℕ → ℕ → ℕ → Type 0
Among of at n b = (k : ℕ) × (at ≤ k) × (k < at + n) × (of k ≡ Some b)

module _ {F : Type 0} where
  -- how many frames a stretch has
  abbrev pub extent : Stretch F → ℕ
  extent (Row entries span) = span.end - span.start
  extent (Given fs) = length fs.now

  -- the frames of a stretch
  abbrev pub stretch : Meaning F → Stretch F → List F
  stretch m (Row entries span) = take (span.end - span.start) (drop span.start (frames m entries.now))
  stretch m (Given fs) = fs.now

  -- a stretch of a row lies within it, and the row's entries are tied to the store
  abbrev pub Sound : Meaning F → Stretch F → Type 0
  Sound m (Row entries span) = Tied m entries.now × (span.start ≤ span.end) × (span.end ≤ length (frames m entries.now)) × (span.end < 2 ^ 64)
  Sound m (Given fs) = Unit {0}

  -- and so does every stretch
  abbrev pub AllSound : Meaning F → List (Stretch F) → Type 0
  AllSound m ss = AllByRecursion (Sound m) ss

  -- the stretches joined
  abbrev pub sequence : Meaning F → List (Stretch F) → List F
  sequence m ss = flat_map (stretch m) ss

  -- the block that the frame at the place k of a stretch is of; frames that are given are of none
  abbrev pub origin : Stretch F → ℕ → Option ℕ
  origin (Row entries span) k = block_at entries.now (span.start + k)
  origin (Given fs) k = None

  -- the block that the frame at the place k of the joined stretches is of
  abbrev pub source : List (Stretch F) → ℕ → Option ℕ
  source ss k = located extent origin ss k

  -- the read of a block failed that has a frame among the n from `at` on
  abbrev pub Misses : Meaning F → (ℕ → Option ℕ) → ℕ → ℕ → StoreFault → Meaning F → Type 0
  Misses m of at n f m' = (b : ℕ) × Among of at n b × Fails m b f m'

  -- a buffer is filled from the joined stretches; where a read fails it may hold anything
  abbrev pub Gathers : Meaning F → List (Stretch F) → ℕ → List F → {U : Type 0} → Result U StoreFault → List F → Meaning F → Type 0
  Gathers m ss at old (Ok _) new m' = (new ≡ take (length old) (drop at (sequence m ss))) × (m' ≡ m)
  Gathers m ss at old (Err f) new m' = Misses m (source ss) at (length old) f m'
