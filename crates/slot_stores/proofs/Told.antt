-- What the checks and places of a store tell of a call.
use Rattle.std.proofs.Common.{◌≡◌, ℕ, ◌+◌, ◌≤◌, ◌≢◌, List, length, None, Ok, Err, Option, Result}
use Rattle.std.specs.Result.{is_ok, IsErrAnd}
use Rattle.std.proofs.lemmas.Result.{err_from_is_err_and}
use Rattle.stores.specs.declared.fault.StoreError.{StoreError}
use Rattle.stores.specs.declared.fault.StoreFault.{StoreFault}
use Rattle.stores.specs.Faults.{fault}
use Rattle.stores.specs.Meaning.{Meaning, block}
use Rattle.stores.specs.Promise.{Checks, Puts, placed, refusal_of_read}
use Rattle.stores.proofs.Refusals.{put_refused, read_passes}

-- a check that passes finds no refusal, also where its error was turned into another one
passed : {U V E : Type 0} (refusal : Option StoreError) (check : Result U StoreError) (told : Result V E) (v : V)
    → Checks refusal check → is_ok told ≡ is_ok check → told ≡ Ok v → refusal ≡ None
passed refusal (Ok _) told v h same is = h
passed refusal (Err _) told v h same is = cc

module _ {F : Type 0} (m : Meaning F) where
  -- what is read lies within a block
  pub read_told : {U V E : Type 0} (n offset count : ℕ) (check : Result U StoreError) (told : Result V E) (v : V)
      → Checks (refusal_of_read m n offset count) check → is_ok told ≡ is_ok check → told ≡ Ok v
      → (refusal_of_read m n offset count ≡ None) × (length (block m n) ≢ 0) × (offset + count ≤ length (block m n))
  read_told n offset count check told v h same is =
      let none = passed (refusal_of_read m n offset count) check told v h same is in
      let p = read_passes m n offset count none in
      (none, p.0, p.1)

  -- a put with no place is refused
  pub put_told : (frames : List F) (e : StoreError) (told : Result ℕ StoreFault) → Err e ≡ placed m (length frames)
      → IsErrAnd told (λ f. f ≡ fault e None) → Puts m frames told m
  put_told frames e told h is =
      let f = err_from_is_err_and told is in
      rw (f.1, f.2) (put_refused m frames e h)
