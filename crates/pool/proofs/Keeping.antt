-- What is kept of blocks stays right as blocks are put and go. Assumes nothing.
use Rattle.std.proofs.Common.{◌≡◌, ℕ, ◌<◌, List, [], length, set, Some, None, Ok, Err, Option, Result, sym, ap, ◌∙◌, ⊎_elim, arith}
use Rattle.std.proofs.lemmas.List.{get_or-set_same, get_or-set_other, length-set}
use Rattle.std.proofs.lemmas.Bool.{cases_eq}
use Rattle.measures.specs.Summaries.{no_summary}
use Rattle.measures.specs.declared.summary.Summary.{Summary}
use Rattle.stores.specs.declared.fault.StoreError.{StoreError}
use Rattle.stores.specs.declared.fault.StoreFault.{StoreFault}
use Rattle.stores.specs.Faults.{fault}
use Rattle.stores.specs.Meaning.{Meaning, capacity, block, holding}
use Rattle.stores.specs.Promise.{Puts, Releases, Tried, refusal_of_put}
use Rattle.pool.specs.Kept.{summed, Kept, kept_after}
use Rattle.pool.proofs.Falls.{emptied}

module _ {F : Type 0} (worth : F → Summary) where
  -- a store with no block but blocks of the other
  fewer_keeps : (m m' : Meaning F) (kept : List Summary) → capacity m' ≡ capacity m → ((n : ℕ) → 0 < length (block m' n) → block m' n ≡ block m n) → Kept worth m kept → Kept worth m' kept
  fewer_keeps m m' kept size same k = record {
    each = k.each ∙ sym size;
    right = λ n some.
        let is = same n some in
        k.right n (omega (arith, some, ap length is)) ∙ sym (ap (summed worth) is);
  }

  put_one : (m : Meaning F) (kept : List Summary) (n : ℕ) (frames : List F) → n < capacity m → Kept worth m kept → Kept worth (holding m n frames) (set kept n (summed worth frames))
  put_one m kept n frames l k = record {
    each = length-set kept n (summed worth frames) ∙ k.each ∙ sym (length-set m.blocks n frames);
    right = λ i some.
        ⊎_elim
        (λ (e : i ≡ n).
        rw e (get_or-set_same kept n (summed worth frames) no_summary (omega (arith, k.each, l)) ∙ sym (ap (summed worth) (get_or-set_same m.blocks n frames [] l))))
        (λ (ne : i ≡ n → ⊥).
        let same : block (holding m n frames) i ≡ block m i = get_or-set_other m.blocks n i frames [] ne in
        get_or-set_other kept n i (summed worth frames) no_summary ne ∙ k.right i (omega (arith, some, ap length same)) ∙ sym (ap (summed worth) same))
        (cases_eq i n);
  }

  tried_blocks : (refusal : Option StoreError) (told : StoreError → StoreFault) (f : StoreFault) (m m' : Meaning F) → Tried refusal told f m m' → m'.blocks ≡ m.blocks
  tried_blocks (Some e) told f m m' t = ap (λ (x : Meaning F). x.blocks) t.1
  tried_blocks None told f m m' t = ap (λ (x : Meaning F). x.blocks) t.1

  -- a put, by what is kept before and after
  pub put_keeps : (m m' : Meaning F) (kept kept' : List Summary) (frames : List F) (r : Result ℕ StoreFault) → Puts m frames r m' → kept' ≡ kept_after worth kept frames r → Kept worth m kept → Kept worth m' kept'
  put_keeps m m' kept kept' frames (Ok n) p e k = rw (e, p.3) (put_one m kept n frames p.1 k)
  put_keeps m m' kept kept' frames (Err f) p e k =
      let same = tried_blocks (refusal_of_put m (length frames)) (λ e. fault e None) f m m' p in
      rw e (fewer_keeps m m' kept (ap length same) (λ n some. rw same) k)

  -- a release, whatever it answers
  pub released_keeps : {U : Type 0} (m : Meaning F) (kept : List Summary) (n : ℕ) (r : Result U StoreFault) (m' : Meaning F) → Releases m n r m' → Kept worth m kept → Kept worth m' kept
  released_keeps m kept n r m' h =
      let gone = emptied m n r m' h in
      fewer_keeps m m' kept gone.same_capacity (λ i some.
      ⊎_elim (λ (e : i ≡ n). absurd (omega (arith, some, ap length (ap (block m') e ∙ gone.gone)))) (gone.others i) (cases_eq i n))
