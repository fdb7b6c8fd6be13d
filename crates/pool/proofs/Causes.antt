-- Why a block was not put. Assumes nothing.
use Rattle.std.proofs.Common.{◌≡◌, ℕ, ◌+◌, ◌<◌, Bool, true, false, cond, ◌||◌, eqb, ltb, ◌⊎◌, List, length, Some, None, Err, sym, refl, ap, ◌∙◌, subst, inl, inr, ⊎_elim, arith}
use Rattle.std.specs.List.{Contains}
use Rattle.std.proofs.lemmas.Bool.{cases_Bool, cond-true, cond-false, or_cases, eqb-true, ltb-true}
use Rattle.stores.specs.declared.fault.StoreError.TheVariants.{Ailing, BadLength, Full, Failed}
use Rattle.stores.specs.declared.fault.StoreFault.{StoreFault}
use Rattle.stores.specs.Faults.{fault}
use Rattle.stores.specs.Meaning.{Meaning, vacant}
use Rattle.stores.specs.Promise.{Tried}
use Rattle.pool.specs.declared.cut.Cut.{Cut}
use Rattle.reading.specs.declared.stretch.Stretch.{Stretch}
use Rattle.reading.specs.Stretches.{sequence, source, Misses}
use Rattle.pool.specs.Blocks.{cutout, PutsOne, About, Cause}

module _ {F : Type 0} where
  module _ (m : Meaning F) (ss : List (Stretch F)) (cuts : List Cut) (c : Cut) (has : Contains cuts c) where
    abbrev Causes : StoreFault → Type 0
    Causes f = Cause m ss cuts f.error f.block

    some_cut : 0 < length cuts
    some_cut = omega (arith, has.1)

    -- the read of a block of the cut failed
    missed : (m₁ m' : Meaning F) (f : StoreFault) → m₁.ailing ≡ m.ailing → Misses m₁ (source ss) c.at c.len f m' → Causes f
    missed m₁ m' f same h =
        let about : About ss cuts (Some h.0) = (c, has, h.1) in
        ⊎_elim
        (λ (a : m₁.ailing ≡ true). subst Causes (sym (h.2.told ∙ ap (λ e. fault e (Some h.0)) (cond-true m₁.ailing Ailing Failed a))) (sym same ∙ a, about))
        (λ (a : m₁.ailing ≡ false). subst Causes (sym (h.2.told ∙ ap (λ e. fault e (Some h.0)) (cond-false m₁.ailing Ailing Failed a))) (sym same ∙ a, about))
        (cases_Bool m₁.ailing)

    -- a put of so many frames was refused or failed, by the three tests of its refusal
    unput : (m₁ m' : Meaning F) (f : StoreFault) (count : ℕ) → m₁.ailing ≡ m.ailing → m₁.limit ≡ m.limit → count ≡ c.len → vacant m.blocks < vacant m₁.blocks + length cuts →
        (a b d : Bool) → m₁.ailing ≡ a → (eqb count 0 || ltb m₁.limit count) ≡ b → eqb (vacant m₁.blocks) 0 ≡ d →
        Tried (cond a (Some Ailing) (cond b (Some BadLength) (cond d (Some Full) None))) (λ e. fault e None) f m₁ m' → Causes f
    unput m₁ m' f count same limit long room true b d ea eb ed t = subst Causes (sym t.0) (sym same ∙ ea, some_cut)
    unput m₁ m' f count same limit long room false true d ea eb ed t =
        let bad : (c.len ≡ 0) ⊎ (m.limit < c.len) =
        ⊎_elim (λ z. inl (sym long ∙ eqb-true count 0 z)) (λ z. inr (omega (arith, ltb-true m₁.limit count z))) (or_cases (eqb count 0) (ltb m₁.limit count) eb) in
        subst Causes (sym t.0) (sym same ∙ ea, refl, (c, has, bad))
    unput m₁ m' f count same limit long room false false true ea eb ed t = subst Causes (sym t.0) (sym same ∙ ea, refl, omega (arith, eqb-true (vacant m₁.blocks) 0 ed))
    unput m₁ m' f count same limit long room false false false ea eb ed t = subst Causes (sym t.0) (sym same ∙ ea, some_cut)

    -- the cause of a failed cut, where some blocks have been put before
    pub cause : (m₁ m' : Meaning F) (f : StoreFault) → m₁.ailing ≡ m.ailing → m₁.limit ≡ m.limit → length (cutout (sequence m₁ ss) c) ≡ c.len → vacant m.blocks < vacant m₁.blocks + length cuts → PutsOne m₁ ss c (Err f) m' → Causes f
    cause m₁ m' f same limit long room h =
        ⊎_elim
        (missed m₁ m' f same)
        (unput m₁ m' f (length (cutout (sequence m₁ ss) c)) same limit long room m₁.ailing (eqb (length (cutout (sequence m₁ ss) c)) 0 || ltb m₁.limit (length (cutout (sequence m₁ ss) c))) (eqb (vacant m₁.blocks) 0) refl refl refl)
        h
