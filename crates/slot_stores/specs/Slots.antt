-- Stores that keep their blocks in slots of one size, one after the other.
use Rattle.std.specs.Prelude.{ℕ, zero, suc, ◌+◌, ◌/◌, ◌%◌, ◌≤◌, min, Bool, false, cond, ◌&&◌, List, [], map, length, replicate, None, Ok, Err, Result, ◌==◌, nat_le, slice_index_or}
use Rattle.std.proofs.Common.{arith}
use Rattle.std.specs.List.{range_with_len}
use Rattle.stores.specs.declared.fault.StoreError.{StoreError}
use Rattle.stores.specs.declared.fault.StoreFault.{StoreFault}
use Rattle.stores.specs.Faults.{fault}
use Rattle.stores.specs.Meaning.{Meaning}
use Rattle.stores.specs.Promise.{placed}

-- a block limit is even, and from 4 to 65,536
abbrev pub limit_fits : ℕ → Bool
limit_fits limit = nat_le 4 limit && nat_le limit 65536 && limit % 2 == 0

-- how many slots of a size there are in a total, at most 1,024, and none where the limit does not fit
abbrev pub count_of_slots : ℕ → ℕ → ℕ → ℕ
count_of_slots limit size total = cond (limit_fits limit) (min (total / size) 1024) 0

-- the answer of a put whose place was looked for
abbrev pub answered : Result ℕ StoreError → Result ℕ StoreFault
answered (Ok n) = Ok n
answered (Err e) = Err (fault e None)

module _ {F : Type 0} where
  -- the blocks of a number of slots, by what each slot holds
  abbrev pub numbered : (ℕ → List F) → ℕ → List (List F)
  numbered held count = map held (range_with_len 0 count)

  -- a store of so many numbers, all free
  abbrev pub unused : ℕ → ℕ → Meaning F
  unused limit count = record { limit = limit; ailing = false; blocks = replicate count [] }

  -- what a put answers that never fails: the lowest free number, or why it is refused
  abbrev pub put_answer : Meaning F → ℕ → Result ℕ StoreFault
  put_answer m count = answered (placed m count)

  -- where no slot holds more than a limit, no number has a longer block
  pub numbered_fitting : (held : ℕ → List F) (limit : ℕ) → ((i : ℕ) → length (held i) ≤ limit)
      → (from count n : ℕ) → length (slice_index_or (map held (range_with_len from count)) n []) ≤ limit
  numbered_fitting held limit all from zero n = omega arith
  numbered_fitting held limit all from (suc count) zero = all from
  numbered_fitting held limit all from (suc count) (suc n) = numbered_fitting held limit all (from + 1) count n
