-- What the faults of a store leave of it. Assumes nothing.
use Rattle.std.specs.Prelude.{◌≡◌, ℕ, Bool, true, cond, Some, Ok, Err, Result}
use Rattle.stores.specs.declared.fault.StoreError.{StoreError}
use Rattle.stores.specs.declared.fault.StoreError.TheVariants.{Ailing, NoBlock, BeyondBlock, BadLength, Full, Failed}
use Rattle.stores.specs.declared.fault.StoreFault.{StoreFault}
use Rattle.stores.specs.Faults.{fault}
use Rattle.stores.specs.Meaning.{Meaning, sick}

-- the health after an error, by the health before
abbrev pub ails : StoreError → Bool → Bool
ails Ailing a = a
ails NoBlock a = a
ails BeyondBlock a = a
ails BadLength a = a
ails Full a = a
ails Failed a = true

module _ {F : Type 0} where
  -- the same store after an error: ailing where it failed, and else as it was
  abbrev pub after : Meaning F → StoreError → Meaning F
  after m e = record { limit = m.limit; ailing = ails e m.ailing; blocks = m.blocks }

  -- what a call leaves of the store: as it was where it returns, and after the error that its fault has
  abbrev pub Leaves : {U E : Type 0} → (E → StoreError) → Result U E → Meaning F → Meaning F → Type 0
  Leaves error (Ok _) m m' = m' ≡ m
  Leaves error (Err f) m m' = m' ≡ after m (error f)

  -- a failed read of the block b: what the store tells, and that it is ailing then
  pub record Fails (m : Meaning F) (b : ℕ) (f : StoreFault) (m' : Meaning F) : Type 0 where
    pub told : f ≡ fault (cond m.ailing Ailing Failed) (Some b)
    pub after : m' ≡ sick m
