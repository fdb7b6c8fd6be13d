-- What each call of a store promises, by the store's meaning before and after, m and m'.
use Rattle.std.specs.Prelude.{◌≡◌, ℕ, ◌+◌, ◌<◌, cond, ◌||◌, List, [], length, take, drop, Some, None, Ok, Err, Option, Result, ◌==◌, nat_lt}
use Rattle.std.specs.Option.{ok_or}
use Rattle.stores.specs.declared.fault.StoreError.{StoreError}
use Rattle.stores.specs.declared.fault.StoreError.TheVariants.{Ailing, NoBlock, BeyondBlock, BadLength, Full, Failed}
use Rattle.stores.specs.declared.fault.StoreFault.{StoreFault}
use Rattle.stores.specs.Faults.{fault}
use Rattle.stores.specs.Meaning.{Meaning, capacity, block, vacant, lowest, holding, sick}

-- what a check answers of a call: the refusal where there is one, else nothing
abbrev pub Checks : Option StoreError → {U : Type 0} → Result U StoreError → Type 0
Checks refusal (Ok _) = refusal ≡ None
Checks refusal (Err e) = refusal ≡ Some e

module _ {F : Type 0} where
  -- why a put of so many frames is refused before it is tried, if it is
  abbrev pub refusal_of_put : Meaning F → ℕ → Option StoreError
  refusal_of_put m count =
      cond m.ailing (Some Ailing) (
      cond (count == 0 || nat_lt m.limit count) (Some BadLength) (
      cond (vacant m.blocks == 0) (Some Full) None))

  -- the lowest free number for a put of so many frames, or why the put is refused
  abbrev pub placed : Meaning F → ℕ → Result ℕ StoreError
  placed m count =
      cond m.ailing (Err Ailing) (
      cond (count == 0 || nat_lt m.limit count) (Err BadLength) (
      ok_or (lowest m) Full))

  -- why a read of so many frames is refused before it is tried, if it is
  abbrev pub refusal_of_read : Meaning F → ℕ → ℕ → ℕ → Option StoreError
  refusal_of_read m n offset count =
      cond m.ailing (Some Ailing) (
      cond (length (block m n) == 0) (Some NoBlock) (
      cond (nat_lt (length (block m n)) (offset + count)) (Some BeyondBlock) (
      cond (count == 0) (Some BadLength) None)))

  -- the fault f of a call: told of the refusal, where there is one, and nothing changed;
  -- else the call failed, and the store is ailing
  abbrev pub Tried : Option StoreError → (StoreError → StoreFault) → StoreFault → Meaning F → Meaning F → Type 0
  Tried (Some e) told f m m' = (f ≡ told e) × (m' ≡ m)
  Tried None told f m m' = (f ≡ told Failed) × (m' ≡ sick m)

  -- a put answers a number that was free and now holds the frames, or a fault
  abbrev pub Puts : Meaning F → List F → Result ℕ StoreFault → Meaning F → Type 0
  Puts m frames (Ok n) m' =
      (refusal_of_put m (length frames) ≡ None) × (n < capacity m) × (block m n ≡ []) × (m' ≡ holding m n frames)
  Puts m frames (Err f) m' = Tried (refusal_of_put m (length frames)) (λ e. fault e None) f m m'

  -- a read fills the buffer, `old` before and `new` after, or answers a fault and leaves it unchanged
  abbrev pub Reads : Meaning F → ℕ → ℕ → List F → {U : Type 0} → Result U StoreFault → List F → Meaning F → Type 0
  Reads m n offset old (Ok _) new m' =
      (refusal_of_read m n offset (length old) ≡ None) × (new ≡ take (length old) (drop offset (block m n))) × (m' ≡ m)
  Reads m n offset old (Err f) new m' =
      Tried (refusal_of_read m n offset (length old)) (λ e. fault e (Some n)) f m m' × (new ≡ old)

  -- a release frees a number that has a block, and is refused for any other
  abbrev pub Releases : Meaning F → ℕ → {U : Type 0} → Result U StoreFault → Meaning F → Type 0
  Releases m n (Ok _) m' = (0 < length (block m n)) × (m' ≡ holding m n [])
  Releases m n (Err f) m' = (length (block m n) ≡ 0) × (f ≡ fault NoBlock (Some n)) × (m' ≡ m)
