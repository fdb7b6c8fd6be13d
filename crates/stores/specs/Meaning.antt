-- What a block store means: a limit, a health, and for each number its block.
use Rattle.std.specs.Prelude.{ℕ, ◌+◌, ◌≤◌, Bool, true, false, cond, List, [], ◌∷◌, length, Some, None, Option, ◌==◌, slice_index_or, slice_set}

-- the most frames of a block, whether the store is ailing, and the block of each number;
-- the empty list marks a free number
pub record Meaning (F : Type 0) : Type 0 where
  pub limit : ℕ
  pub ailing : Bool
  pub blocks : List (List F)

module _ {F : Type 0} where
  -- how many numbers there are
  abbrev pub capacity : Meaning F → ℕ
  capacity m = length m.blocks

  -- the block of a number, empty where the number is free or there is no such number
  abbrev pub block : Meaning F → ℕ → List F
  block m n = slice_index_or m.blocks n []

  -- how many numbers of a list of blocks are free
  abbrev pub vacant : List (List F) → ℕ
  vacant [] = 0
  vacant (b ∷ bs) = cond (length b == 0) 1 0 + vacant bs

  -- the first free number of a list of blocks that are numbered from a number on, if one is free
  abbrev pub lowest_from : ℕ → List (List F) → Option ℕ
  lowest_from n [] = None
  lowest_from n (b ∷ bs) = cond (length b == 0) (Some n) (lowest_from (n + 1) bs)

  -- the lowest free number, if one is free
  abbrev pub lowest : Meaning F → Option ℕ
  lowest m = lowest_from 0 m.blocks

  -- the same store with another block at a number
  abbrev pub holding : Meaning F → ℕ → List F → Meaning F
  holding m n frames = record { limit = m.limit; ailing = m.ailing; blocks = slice_set m.blocks n frames }

  -- the same store, ailing
  abbrev pub sick : Meaning F → Meaning F
  sick m = record { limit = m.limit; ailing = true; blocks = m.blocks }

  -- the same store, not ailing
  abbrev pub well : Meaning F → Meaning F
  well m = record { limit = m.limit; ailing = false; blocks = m.blocks }

  -- no block is longer than the limit
  abbrev pub WithinLimit : Meaning F → Type 0
  WithinLimit m = (n : ℕ) → length (block m n) ≤ m.limit
