-- Blocks put one after another, each at a free number, and taken out again. Assumes nothing.
use Rattle.std.proofs.Common.{◌≡◌, ℕ, zero, suc, ◌+◌, ◌<◌, Bool, false, ◌≢◌, List, [], ◌∷◌, ◌++◌, length, get_or, set, Ok, Err, Result, sym, refl, ap, ◌∙◌, subst, arith}
use Rattle.std.specs.List.{AllByRecursion}
use Rattle.std.proofs.lemmas.List.{length-set, get_or-set_same, get_or-set_other, set-set, set-get_or, nil_from_length}
use Rattle.pool.proofs.Each.{each_weaker}
use Rattle.std.proofs.lemmas.Bool.Decides.{nat_tests}
use Rattle.stores.specs.declared.fault.StoreError.{StoreError}
use Rattle.stores.specs.declared.fault.StoreFault.{StoreFault}
use Rattle.stores.specs.Meaning.{Meaning, capacity, block, holding, vacant}
use Rattle.stores.specs.Promise.{Releases}
use Rattle.reading.specs.Faults.{ails, after}
use Rattle.pool.specs.Blocks.{Distinct, cleared, emptied, Holds, Stored}

module _ {F : Type 0} where
  -- from some blocks, parts put at numbers one after another give others
  pub data Placed : List (List F) → List (List F) → List ℕ → List (List F) → Type 0 where
    none : {bs : List (List F)} → Placed bs [] [] bs
    one : (bs : List (List F)) (p : List F) (n : ℕ) {ps : List (List F)} {ns : List ℕ} {bs' : List (List F)} → 0 < length p → n < length bs → get_or bs n [] ≡ [] → Placed (set bs n p) ps ns bs' → Placed bs (p ∷ ps) (n ∷ ns) bs'

  placed_push : {bs ps : List (List F)} {ns : List ℕ} {bs' : List (List F)} → Placed bs ps ns bs' → (p : List F) (n : ℕ) → 0 < length p → n < length bs' → get_or bs' n [] ≡ [] → Placed bs (ps ++ p ∷ []) (ns ++ n ∷ []) (set bs' n p)
  placed_push {bs} none p n some here free = one bs p n some here free none
  placed_push (one bs q k full below unused rest) p n some here free = one bs q k full below unused (placed_push rest p n some here free)

  -- the last number is taken out first
  pub cleared_push : (bs : List (List F)) (ns : List ℕ) (n : ℕ) → cleared bs (ns ++ n ∷ []) ≡ cleared (set bs n []) ns
  cleared_push bs [] n = refl
  cleared_push bs (k ∷ ns) n = ap (λ z. set z k []) (cleared_push bs ns n)

  -- a free number that is freed
  set_free : (bs : List (List F)) (n : ℕ) → get_or bs n [] ≡ [] → set bs n [] ≡ bs
  set_free bs n free = ap (set bs n) (sym free) ∙ set-get_or bs n []

  placed_undo : {bs ps : List (List F)} {ns : List ℕ} {bs' : List (List F)} → Placed bs ps ns bs' → cleared bs' ns ≡ bs
  placed_undo none = refl
  placed_undo (one bs p n some here free rest) = ap (λ z. set z n []) (placed_undo rest) ∙ set-set bs n p [] ∙ set_free bs n free

  placed_size : {bs ps : List (List F)} {ns : List ℕ} {bs' : List (List F)} → Placed bs ps ns bs' → length bs' ≡ length bs
  placed_size none = refl
  placed_size (one bs p n some here free rest) = placed_size rest ∙ length-set bs n p

  -- no part is empty
  placed_full : {bs ps : List (List F)} {ns : List ℕ} {bs' : List (List F)} → Placed bs ps ns bs' → AllByRecursion (λ p. 0 < length p) ps
  placed_full none = tt
  placed_full (one bs p n some here free rest) = (some, placed_full rest)

  -- a number that holds something is none that is free
  other : (bs : List (List F)) (k n : ℕ) → 0 < length (get_or bs k []) → get_or bs n [] ≡ [] → k ≢ n
  other bs k n some free same = let e : length (get_or bs k []) ≡ 0 = ap length (ap (λ z. get_or bs z []) same ∙ free) in omega arith

  -- what is put is there
  holds_some : (bs : List (List F)) (n : ℕ) (p : List F) → 0 < length p → n < length bs → 0 < length (get_or (set bs n p) n [])
  holds_some bs n p some h = omega (arith, ap length (get_or-set_same bs n p [] h))

  -- what is taken stays
  placed_keeps : {bs ps : List (List F)} {ns : List ℕ} {bs' : List (List F)} → Placed bs ps ns bs' → (k : ℕ) → 0 < length (get_or bs k []) → get_or bs' k [] ≡ get_or bs k []
  placed_keeps none k taken = refl
  placed_keeps (one bs p n some here free rest) k taken =
      let same : get_or (set bs n p) k [] ≡ get_or bs k [] = get_or-set_other bs n k p [] (other bs k n taken free) in
      placed_keeps rest k (omega (arith, taken, ap length same)) ∙ same

  placed_others : {bs ps : List (List F)} {ns : List ℕ} {bs' : List (List F)} → Placed bs ps ns bs' → (k : ℕ) → AllByRecursion (λ n. n ≡ k → ⊥) ns → get_or bs' k [] ≡ get_or bs k []
  placed_others none k apart = refl
  placed_others (one bs p n some here free rest) k apart = placed_others rest k apart.1 ∙ get_or-set_other bs n k p [] (λ same. apart.0 (sym same))

  -- the numbers were free
  placed_free : {bs ps : List (List F)} {ns : List ℕ} {bs' : List (List F)} → Placed bs ps ns bs' → AllByRecursion (λ n. (n < length bs) × (get_or bs n [] ≡ [])) ns
  placed_free none = tt
  placed_free (one bs p n {ns = ns} some here free rest) =
      let full = holds_some bs n p some here in
      let P : ℕ → Type 0 = λ k. (k < length (set bs n p)) × (get_or (set bs n p) k [] ≡ []) in
      let Q : ℕ → Type 0 = λ k. (k < length bs) × (get_or bs k [] ≡ []) in
      let conv : (k : ℕ) → P k → Q k = λ k h. (omega (arith, h.0, length-set bs n p), sym (get_or-set_other bs n k p [] (λ same. other (set bs n p) n k full h.1 (sym same))) ∙ h.1) in
      ((here, free), each_weaker P Q conv ns (placed_free rest))

  -- the numbers differ from each number that was taken
  placed_apart : {bs ps : List (List F)} {ns : List ℕ} {bs' : List (List F)} → Placed bs ps ns bs' → (k : ℕ) → 0 < length (get_or bs k []) → AllByRecursion (λ n. n ≡ k → ⊥) ns
  placed_apart none k taken = tt
  placed_apart (one bs p n some here free rest) k taken =
      let same : get_or (set bs n p) k [] ≡ get_or bs k [] = get_or-set_other bs n k p [] (other bs k n taken free) in
      ((λ eq. other bs k n taken free (sym eq)), placed_apart rest k (omega (arith, taken, ap length same)))

  placed_distinct : {bs ps : List (List F)} {ns : List ℕ} {bs' : List (List F)} → Placed bs ps ns bs' → Distinct ns
  placed_distinct none = tt
  placed_distinct (one bs p n some here free rest) = (placed_apart rest n (holds_some bs n p some here), placed_distinct rest)

  placed_holds : {bs ps : List (List F)} {ns : List ℕ} (m' : Meaning F) → Placed bs ps ns m'.blocks → Holds m' ns ps
  placed_holds m' none = tt
  placed_holds m' (one bs p n some here free rest) = (placed_keeps rest n (holds_some bs n p some here) ∙ get_or-set_same bs n p [] here, placed_holds m' rest)

  -- a block takes one free number
  vacant_set : (bs : List (List F)) (n : ℕ) (p : List F) → n < length bs → get_or bs n [] ≡ [] → 0 < length p → vacant bs ≡ vacant (set bs n p) + 1
  vacant_set [] n p h free some = absurd (omega arith)
  vacant_set (b ∷ bs) zero p h free some = grind (arith, nat_tests, ap length free)
  vacant_set (b ∷ bs) (suc n) p h free some = omega (arith, vacant_set bs n p (omega arith) free some)

  placed_vacant : {bs ps : List (List F)} {ns : List ℕ} {bs' : List (List F)} → Placed bs ps ns bs' → vacant bs ≡ vacant bs' + length ps
  placed_vacant none = omega arith
  placed_vacant (one bs p n some here free rest) = omega (arith, vacant_set bs n p here free some, placed_vacant rest)

  -- the store m' comes from m by the parts ps, put at the numbers ns
  pub record Putting (m : Meaning F) (ps : List (List F)) (ns : List ℕ) (m' : Meaning F) : Type 0 where
    pub placed : Placed m.blocks ps ns m'.blocks
    pub limit : m'.limit ≡ m.limit
    pub ailing : m'.ailing ≡ m.ailing
    pub well : 0 < length ps → m.ailing ≡ false

  -- before the first
  pub putting_none : {m : Meaning F} → Putting m [] [] m
  putting_none = record { placed = none; limit = refl; ailing = refl; well = λ some. absurd (omega arith) }

  -- one block more
  pub putting_more : {m m₁ : Meaning F} {ps : List (List F)} {ns : List ℕ} → Putting m ps ns m₁ → (n : ℕ) (p : List F) (m₂ : Meaning F) → 0 < length p → n < capacity m₁ → block m₁ n ≡ [] → m₂ ≡ holding m₁ n p → m₁.ailing ≡ false → Putting m (ps ++ p ∷ []) (ns ++ n ∷ []) m₂
  putting_more {m} {m₁} {ps} {ns} w n p m₂ some h free e well =
      let P : Meaning F → Type 0 = λ z. Putting m (ps ++ p ∷ []) (ns ++ n ∷ []) z in
      let at : P (holding m₁ n p) = record { placed = placed_push w.placed p n some h free; limit = w.limit; ailing = w.ailing; well = λ _. sym w.ailing ∙ well } in
      subst P (sym e) at

  module _ {m m₁ : Meaning F} {ps : List (List F)} {ns : List ℕ} (w : Putting m ps ns m₁) where
    -- the way back, after an error
    pub putting_back : (e : StoreError) (m₂ m₃ : Meaning F) → m₂ ≡ after m₁ e → m₃ ≡ emptied m₂ ns → m₃ ≡ after m e
    putting_back e m₂ m₃ e₂ e₃ =
        let at : ℕ → Bool → List (List F) → Meaning F = λ l a bs. record { limit = l; ailing = ails e a; blocks = bs } in
        e₃ ∙ ap (λ z. emptied z ns) e₂ ∙ ap (λ z. at z m₁.ailing (cleared m₁.blocks ns)) w.limit ∙ ap (λ z. at m.limit z (cleared m₁.blocks ns)) w.ailing ∙ ap (at m.limit m.ailing) (placed_undo w.placed)

    pub putting_keeps : (k : ℕ) → 0 < length (block m k) → block m₁ k ≡ block m k
    putting_keeps = placed_keeps w.placed

    pub putting_vacant : vacant m.blocks ≡ vacant m₁.blocks + length ps
    putting_vacant = placed_vacant w.placed

    pub putting_below : AllByRecursion (λ n. n < capacity m) ns
    putting_below =
        let P : ℕ → Type 0 = λ n. (n < capacity m) × (block m n ≡ []) in
        let Q : ℕ → Type 0 = λ n. n < capacity m in
        each_weaker P Q (λ n h. h.0) ns (placed_free w.placed)

    pub stored : Stored m ps ns m₁
    stored = record {
      limit = w.limit;
      ailing = w.ailing;
      size = placed_size w.placed;
      well = w.well;
      full = placed_full w.placed;
      distinct = placed_distinct w.placed;
      free = placed_free w.placed;
      holds = placed_holds m₁ w.placed;
      others = placed_others w.placed;
    }

  -- a release makes a number free, whatever it answers
  pub released : {U : Type 0} (m : Meaning F) (n : ℕ) (r : Result U StoreFault) (m' : Meaning F) → Releases m n r m' → m' ≡ holding m n []
  released m n (Ok u) m' h = h.1
  released m n (Err f) m' h =
      let at : List (List F) → Meaning F = λ bs. record { limit = m.limit; ailing = m.ailing; blocks = bs } in
      h.2 ∙ ap at (sym (set_free m.blocks n (nil_from_length (get_or m.blocks n []) h.0)))

  -- the last number of several is released before the others
  pub released_last : {U : Type 0} (m : Meaning F) (all ns : List ℕ) (n : ℕ) (r : Result U StoreFault) (m' : Meaning F) → all ≡ ns ++ n ∷ [] → Releases m n r m' → emptied m' ns ≡ emptied m all
  released_last m all ns n r m' is h =
      let at : List (List F) → Meaning F = λ bs. record { limit = m.limit; ailing = m.ailing; blocks = bs } in
      ap (λ z. emptied z ns) (released m n r m' h) ∙ ap at (sym (cleared_push m.blocks ns n)) ∙ ap (emptied m) (sym is)
