-- What putting a row in the place of another does to the counts and the store.
use Rattle.std.specs.Prelude.{◌≡◌, ℕ, ◌+◌, ◌-◌, ◌^◌, ◌<◌, List, [], length, slice_index, slice_index_or, slice_set}
use Rattle.stores.specs.Meaning.{Meaning}
use Rattle.rows.specs.declared.entry.Entry.{Entry}
use Rattle.pool.specs.Counts.{naming}
use Rattle.pool.specs.Freed.{Freed}
use Rattle.states.specs.Rows.{Rows}

-- The entries es stand in the place of those of the row t. `mid` are the counts with both.
pub record Placed {F : Type 0} (t : ℕ) (es : List Entry) (m : Meaning F) (counts : List ℕ) (rows : Rows) (m' : Meaning F) (counts' : List ℕ) (rows' : Rows) : Type 0 where
  pub rows_are : rows' ≡ slice_set rows t es
  pub long : length counts' ≡ length counts
  pub mid : List ℕ
  pub mid_long : length mid ≡ length counts
  pub rise : (n : ℕ) → n < length counts → slice_index counts n + naming n es < 2 ^ 32 → slice_index mid n ≡ slice_index counts n + naming n es
  pub fall : (n : ℕ) → slice_index counts' n ≡ slice_index mid n - naming n (slice_index_or rows t [])
  pub freed : Freed m mid m' counts'
