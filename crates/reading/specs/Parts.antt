-- How a buffer is filled from one part of a sequence. Assumes nothing.
use Rattle.std.specs.Prelude.{◌≡◌, ℕ, List, length, take, drop, Ok, Err, Result}
use Rattle.stores.specs.declared.fault.StoreFault.{StoreFault}
use Rattle.stores.specs.Meaning.{Meaning}

module _ {F : Type 0} where
  -- a buffer is filled with frames from an offset on, by a store that serves; or it failed
  abbrev pub Fills : List F → Type 0 → (List F → StoreFault → List F → Meaning F → Type 0) → ℕ → List F → {U : Type 0} → Result U StoreFault → List F → Meaning F → Meaning F → Type 0
  Fills frames serves fails skip old (Ok _) new m m' = (new ≡ take (length old) (drop skip frames)) × (m' ≡ m) × serves
  Fills frames serves fails skip old (Err f) new m m' = fails old f new m'
