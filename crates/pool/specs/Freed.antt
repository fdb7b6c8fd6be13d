-- What becomes of a store as counts fall.
use Rattle.std.specs.Prelude.{◌≡◌, ℕ, cond, List, [], ◌==◌, slice_index}
use Rattle.stores.specs.Meaning.{Meaning, capacity, block}

-- the block of a number whose count was `old` and is `new`: it goes as the count falls to 0
abbrev pub left : {F : Type 0} → ℕ → ℕ → List F → List F
left old new b = cond (new == 0) (cond (old == 0) b []) b

-- the blocks whose counts fell from `old` to 0 in `new` are gone, and nothing else has changed
pub record Freed {F : Type 0} (m : Meaning F) (old : List ℕ) (m' : Meaning F) (new : List ℕ) : Type 0 where
  pub same_limit : m'.limit ≡ m.limit
  pub same_health : m'.ailing ≡ m.ailing
  pub same_capacity : capacity m' ≡ capacity m
  pub blocks : (n : ℕ) → block m' n ≡ left (slice_index old n) (slice_index new n) (block m n)
