-- What the tripping store adds to the store below it.
use Rattle.std.specs.Prelude.{◌≡◌, ℕ, ◌+◌, ◌-◌, ◌^◌, min, Bool, true, false, cond, ◌||◌, Some, None, Option, ◌==◌}
use Rattle.stores.specs.declared.fault.StoreError.{StoreError}
use Rattle.stores.specs.declared.tripping.Tripping.{Tripping}
use Rattle.stores.specs.Meaning.{Meaning}

-- a store, ailing also where the one over it tripped
abbrev pub over : {F : Type 0} → Bool → Meaning F → Meaning F
over tripped m = record { limit = m.limit; ailing = tripped || m.ailing; blocks = m.blocks }

-- what a tripping store means, by what the store below means
abbrev pub seen : {F S : Type 0} → (S → Meaning F) → Tripping S → Meaning F
seen meaning t = over t.tripped (meaning t.below)

-- one more, as far as 64 bits count
abbrev pub one_more : ℕ → ℕ
one_more n = min (n + 1) (2 ^ 64 - 1)

-- whether the put or read of a number is the one that trips, of none or one that is to
abbrev pub trips_at : Option ℕ → ℕ → Bool
trips_at None n = false
trips_at (Some at) n = n == at

-- One put or read, by why it is refused, if it is. A refused call changes nothing. Any other is
-- counted: the one whose number is that of `trip_at` trips, with nothing changed below, and `fails`; each
-- other is the call below, and `passes`.
abbrev pub Counts : {S : Type 0} → Option StoreError → Tripping S → Tripping S → Type 0 → Type 0 → Type 0
Counts (Some e) t t' fails passes = t' ≡ t
Counts None t t' fails passes =
    (t'.trip_at ≡ t.trip_at) × (t'.counted ≡ one_more t.counted) ×
    cond (trips_at t.trip_at (t.counted + 1))
    ((t'.below ≡ t.below) × (t'.tripped ≡ true) × fails)
    ((t'.tripped ≡ t.tripped) × passes)
