-- What letting states go does to a pool, whatever they are.
use Rattle.std.specs.Prelude.{◌≡◌, ℕ, ◌-◌, List, map, vec_len, slice_index}
use Rattle.frames.specs.declared.frame.Frame as frame
use Rattle.stores.specs.Meaning.{Meaning}
use Rattle.pool.specs.declared.pool.Pool.{Pool}
use Rattle.pool.specs.Accounts.{counts_of, SameKept}
use Rattle.pool.specs.Freed.{Freed}
use Rattle.pool.specs.Kept.{KeepsRight}
use Rattle.states.specs.declared.state.State.{State}
use Rattle.states.specs.Rows.{contents, names, weigh_all}

-- the blocks whose counts fell to 0 are gone, nothing else of the store has changed, and what is kept of blocks stays
-- where it was, and right
abbrev pub Frees : {S F : Type 0} → frame.Ghosts F → (S → Meaning F) → Pool S → Pool S → Type 0
Frees kind meaning old new =
    Freed (meaning old.store) (counts_of old) (meaning new.store) (counts_of new) ×
    SameKept old new × (vec_len new.accounts ≡ vec_len old.accounts) × KeepsRight kind meaning old new

-- every count of the pool fell by how many entries of the states that went name its number: ss stood, and ts are left
abbrev pub Shed : {S : Type 0} → Pool S → List State → Pool S → List State → Type 0
Shed old ss new ts =
    (n : ℕ) → slice_index (counts_of new) n ≡ slice_index (counts_of old) n - (weigh_all (names n) (map contents ss) - weigh_all (names n) (map contents ts))
