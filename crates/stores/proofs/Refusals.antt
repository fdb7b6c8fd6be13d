-- What a refusal that comes, or does not come, tells of a put or a read.
use Rattle.std.proofs.Common.{◌≡◌, ℕ, ◌+◌, ◌-◌, ◌<◌, ◌≤◌, Bool, true, false, cond, ◌||◌, eqb, ltb, ◌≢◌, List, [], length, Some, None, Ok, Err, Option, Result, sym, refl, ap, ◌∙◌, subst, arith}
use Rattle.std.proofs.lemmas.Bool.{eqb-false, ltb-false, or_parts, eq-eqb, ne_eqb}
use Rattle.std.specs.Option.{ok_or}
use Rattle.stores.specs.declared.fault.StoreError.{StoreError}
use Rattle.stores.specs.declared.fault.StoreError.TheVariants.{Ailing, BadLength, Full}
use Rattle.stores.specs.Faults.{fault}
use Rattle.stores.specs.Meaning.{Meaning, capacity, block, vacant, lowest, holding}
use Rattle.stores.specs.Promise.{refusal_of_put, refusal_of_read, placed, Tried, Puts}
use Rattle.stores.proofs.Vacant.{Lowest, lowest_tells}

-- a refusal that does not come leaves its test false, and the later ones
later : (b : Bool) (e : StoreError) (o : Option StoreError) → cond b (Some e) o ≡ None → (b ≡ false) × (o ≡ None)
later true e o h = let z : ◌≡◌ {A = ℕ} 0 1 = cc in absurd (omega arith)
later false e o h = (refl, h)

module _ {F : Type 0} (m : Meaning F) where
  pub put_passes : (count : ℕ) → refusal_of_put m count ≡ None → (count ≢ 0) × (count ≤ m.limit) × (vacant m.blocks ≢ 0)
  put_passes count h =
      let a = later _ _ _ h in
      let b = later _ _ _ a.1 in
      let d = later _ _ _ b.1 in
      let o = or_parts _ _ b.0 in
      (eqb-false _ _ o.0, ltb-false _ _ o.1, eqb-false _ _ d.0)

  pub read_passes : (n offset count : ℕ) → refusal_of_read m n offset count ≡ None → (length (block m n) ≢ 0) × (offset + count ≤ length (block m n))
  read_passes n offset count h =
      let a = later _ _ _ h in
      let b = later _ _ _ a.1 in
      let d = later _ _ _ b.1 in
      (eqb-false _ _ b.0, ltb-false _ _ d.0)

  -- what a place, or the refusal in its stead, says of a put's refusal
  abbrev Told : Option StoreError → Result ℕ StoreError → Type 0
  Told refusal (Ok n) = (refusal ≡ None) × (n < capacity m) × (block m n ≡ [])
  Told refusal (Err e) = refusal ≡ Some e

  room : (o : Option ℕ) → Lowest 0 m.blocks o → Told (cond (eqb (vacant m.blocks) 0) (Some Full) None) (ok_or o Full)
  room None h = ap (λ t. cond t (Some Full) None) (eq-eqb (vacant m.blocks) 0 h)
  room (Some n) h =
      let e : n - 0 ≡ n = omega arith in
      (ap (λ t. cond t (Some Full) None) (ne_eqb (vacant m.blocks) 0 h.3), omega arith, ap (λ k. block m k) (sym e) ∙ h.2)

  test : (b : Bool) (e : StoreError) (o : Option StoreError) (r : Result ℕ StoreError) → Told o r → Told (cond b (Some e) o) (cond b (Err e) r)
  test true e o r h = refl
  test false e o r h = h

  -- a place is a free number, and there is one exactly where the put is not refused
  place_tells : (count : ℕ) → Told (refusal_of_put m count) (placed m count)
  place_tells count = test m.ailing Ailing _ _ (test (eqb count 0 || ltb m.limit count) BadLength _ _ (room (lowest m) (lowest_tells 0 m.blocks)))

  pub place_found : (count n : ℕ) → Ok n ≡ placed m count → (refusal_of_put m count ≡ None) × (n < capacity m) × (block m n ≡ [])
  place_found count n h = subst (Told (refusal_of_put m count)) (sym h) (place_tells count)

  pub place_refused : (count : ℕ) (e : StoreError) → Err e ≡ placed m count → refusal_of_put m count ≡ Some e
  place_refused count e h = subst (Told (refusal_of_put m count)) (sym h) (place_tells count)

  -- what a put promises whose place was looked for
  pub put_done : (frames : List F) (n : ℕ) (m' : Meaning F) → Ok n ≡ placed m (length frames) → m' ≡ holding m n frames → Puts m frames (Ok n) m'
  put_done frames n m' h is = let p = place_found (length frames) n h in (p.0, p.1, p.2, is)

  pub put_refused : (frames : List F) (e : StoreError) → Err e ≡ placed m (length frames) → Puts m frames (Err (fault e None)) m
  put_refused frames e h = subst (λ o. Tried o (λ d. fault d None) (fault e None) m m) (sym (place_refused (length frames) e h)) (refl, refl)
