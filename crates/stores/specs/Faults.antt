-- The faults of a store.
use Rattle.std.specs.Prelude.{ℕ, List, ◌++◌, Some, None, Option, codes, decimal}
use Rattle.stores.specs.declared.fault.StoreError.{StoreError}
use Rattle.stores.specs.declared.fault.StoreError.TheVariants.{Ailing, NoBlock, BeyondBlock, BadLength, Full, Failed}
use Rattle.stores.specs.declared.fault.StoreFault.{StoreFault}

-- the number that an error is told by
abbrev pub code : StoreError → ℕ
code Ailing = 21
code NoBlock = 22
code BeyondBlock = 23
code BadLength = 24
code Full = 25
code Failed = 26

-- an error, and the number of the block that it is about, if there is one
abbrev pub fault : StoreError → Option ℕ → StoreFault
fault e n = record { error = e; block = n }

-- a block that a fault names, if it names one
abbrev pub block_text : Option ℕ → List ℕ
block_text None = codes ""
block_text (Some n) = codes " at block " ++ decimal n

-- a fault as it is told
abbrev pub fault_text : StoreFault → List ℕ
fault_text f = codes "refused by " ++ decimal (code f.error) ++ block_text f.block
