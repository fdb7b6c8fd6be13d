-- What putting several new blocks does to a store. Assumes nothing.
use Rattle.std.specs.Prelude.{◌≡◌, ℕ, ◌+◌, ◌<◌, ◌≤◌, true, false, ◌⊎◌, List, [], ◌∷◌, map, length, take, drop, Some, None, Ok, Err, Option, Result, ◌≢◌, slice_set}
use Rattle.std.specs.List.{AllByRecursion, Contains}
use Rattle.stores.specs.declared.fault.StoreError.{StoreError}
use Rattle.stores.specs.declared.fault.StoreError.TheVariants.{Ailing, NoBlock, BeyondBlock, BadLength, Full, Failed}
use Rattle.stores.specs.declared.fault.StoreFault.{StoreFault}
use Rattle.stores.specs.Meaning.{Meaning, capacity, block, holding, vacant}
use Rattle.stores.specs.Promise.{Puts}
use Rattle.pool.specs.declared.cut.Cut.{Cut}
use Rattle.reading.specs.declared.stretch.Stretch.{Stretch}
use Rattle.pool.specs.declared.fault.PutFault.{PutFault}
use Rattle.pool.specs.declared.fault.PutFault.TheVariants.{NoMemory, Store}
use Rattle.reading.specs.Faults.{after}
use Rattle.reading.specs.Stretches.{sequence, source, Among, Misses}

-- no number stands twice in a list
abbrev pub Distinct : List ℕ → Type 0
Distinct [] = Unit {0}
Distinct (n ∷ ns) = AllByRecursion (λ k. k ≢ n) ns × Distinct ns

-- a cut lies within a sequence of so many frames, and within the work buffer's room
abbrev pub CutFits : ℕ → ℕ → Cut → Type 0
CutFits room len c = (c.len ≤ room) × (c.at + c.len ≤ len)

-- and so does every cut
abbrev pub CutsFit : ℕ → ℕ → List Cut → Type 0
CutsFit room len cuts = AllByRecursion (CutFits room len) cuts

module _ {F : Type 0} where
  -- the frames of a new block
  abbrev pub cutout : List F → Cut → List F
  cutout seq c = take c.len (drop c.at seq)

  -- the blocks with those of some numbers taken out, the last number first
  abbrev pub cleared : List (List F) → List ℕ → List (List F)
  cleared bs [] = bs
  cleared bs (n ∷ ns) = slice_set (cleared bs ns) n []

  -- the same store with some numbers released
  abbrev pub emptied : Meaning F → List ℕ → Meaning F
  emptied m ns = record { limit = m.limit; ailing = m.ailing; blocks = cleared m.blocks ns }

  -- one new block takes a free number of a well store, or leaves the store as it was but for its health
  abbrev pub Takes : Meaning F → Result ℕ StoreFault → Meaning F → Type 0
  Takes m (Ok n) m' = (p : List F) × (0 < length p) × (n < capacity m) × (block m n ≡ []) × (m' ≡ holding m n p) × (m.ailing ≡ false)
  Takes m (Err f) m' = m' ≡ after m f.error

  -- The new block has the frames of its cut. It fails where the read of one of its blocks does, or its put.
  abbrev pub PutsOne : Meaning F → List (Stretch F) → Cut → Result ℕ StoreFault → Meaning F → Type 0
  PutsOne m ss c (Ok n) m' = Puts m (cutout (sequence m ss) c) (Ok n) m'
  PutsOne m ss c (Err f) m' = Misses m (source ss) c.at c.len f m' ⊎ Puts m (cutout (sequence m ss) c) (Err f) m'

  -- each number holds its part
  abbrev pub Holds : Meaning F → List ℕ → List (List F) → Type 0
  Holds m [] [] = Unit {0}
  Holds m [] (p ∷ ps) = ⊥
  Holds m (n ∷ ns) [] = ⊥
  Holds m (n ∷ ns) (p ∷ ps) = (block m n ≡ p) × Holds m ns ps

  -- the numbers ns were free in a well store and now hold the parts ps, of which none is empty, and
  -- nothing else has changed
  pub record Stored (m : Meaning F) (ps : List (List F)) (ns : List ℕ) (m' : Meaning F) : Type 0 where
    pub limit : m'.limit ≡ m.limit
    pub ailing : m'.ailing ≡ m.ailing
    pub size : capacity m' ≡ capacity m
    pub well : 0 < length ps → m.ailing ≡ false
    pub full : AllByRecursion (λ p. 0 < length p) ps
    pub distinct : Distinct ns
    pub free : AllByRecursion (λ n. (n < capacity m) × (block m n ≡ [])) ns
    pub holds : Holds m' ns ps
    pub others : (n : ℕ) → AllByRecursion (λ k. k ≢ n) ns → block m' n ≡ block m n

  -- Whatever the stretches are: done, there is a number for each cut, and it holds some block;
  -- not done, there is none, and the store is as it was but for its health. Memory is wanting only
  -- where the list of numbers had room for fewer than there are cuts.
  abbrev pub Keeps : ℕ → Meaning F → List Cut → {U : Type 0} → Result U PutFault → List ℕ → Meaning F → Type 0
  Keeps room m cuts (Ok _) ns m' = (ps : List (List F)) × (length ps ≡ length cuts) × Stored m ps ns m'
  Keeps room m cuts (Err NoMemory) ns m' = (room < length cuts) × (ns ≡ []) × (m' ≡ m)
  Keeps room m cuts (Err (Store f)) ns m' = (ns ≡ []) × (m' ≡ after m f.error)

  -- the block that a fault is about: one with frames in a new block, or none at a put
  abbrev pub About : List (Stretch F) → List Cut → Option ℕ → Type 0
  About ss cuts None = 0 < length cuts
  About ss cuts (Some b) = (c : Cut) × Contains cuts c × Among (source ss) c.at c.len b

  -- What an error tells of the store before, and of the block that the fault is about.
  abbrev pub Cause : Meaning F → List (Stretch F) → List Cut → StoreError → Option ℕ → Type 0
  Cause m ss cuts Ailing b = (m.ailing ≡ true) × About ss cuts b
  Cause m ss cuts NoBlock b = ⊥
  Cause m ss cuts BeyondBlock b = ⊥
  Cause m ss cuts BadLength b = (m.ailing ≡ false) × (b ≡ None) × ((c : Cut) × Contains cuts c × ((c.len ≡ 0) ⊎ (m.limit < c.len)))
  Cause m ss cuts Full b = (m.ailing ≡ false) × (b ≡ None) × (vacant m.blocks < length cuts)
  Cause m ss cuts Failed b = (m.ailing ≡ false) × About ss cuts b

  -- Where the stretches are sound and the cuts fit: done, each number holds its part; refused or
  -- failed, the error has its cause.
  abbrev pub PutsAll : Meaning F → List (Stretch F) → List Cut → {U : Type 0} → Result U PutFault → List ℕ → Meaning F → Type 0
  PutsAll m ss cuts (Ok _) ns m' = Stored m (map (cutout (sequence m ss)) cuts) ns m'
  PutsAll m ss cuts (Err NoMemory) ns m' = Unit {0}
  PutsAll m ss cuts (Err (Store f)) ns m' = Cause m ss cuts f.error f.block
