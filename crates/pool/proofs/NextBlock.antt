-- One cut after another: what holds at each where some blocks have been put before. Assumes nothing.
use Rattle.std.proofs.Common.{◌≡◌, ℕ, ◌+◌, ◌<◌, List, [], ◌∷◌, ◌++◌, map, length, get_or, take, drop, Ok, Err, sym, ap, ◌∙◌, arith, length-append, length-drop}
use Rattle.std.proofs.lemmas.List.{length-take-le, get_or-set_same, map_more}
use Rattle.std.proofs.lemmas.List.Elements.{All-from_recursion, Contains-get_or}
use Rattle.stores.specs.declared.fault.StoreFault.{StoreFault}
use Rattle.stores.specs.Meaning.{Meaning, capacity, block, holding}
use Rattle.pool.specs.declared.cut.Cut.{Cut}
use Rattle.reading.specs.declared.stretch.Stretch.{Stretch}
use Rattle.reading.specs.Stretches.{AllSound, sequence}
use Rattle.pool.specs.Blocks.{cutout, CutFits, CutsFit, Takes, PutsOne, Cause}
use Rattle.pool.proofs.Stays.{all_sound_stay, sequence_stays}
use Rattle.pool.proofs.Placing.{Putting, putting_more, putting_keeps, putting_vacant}
use Rattle.pool.proofs.Causes.{cause}

-- what a read past the end of a list of cuts gives
abbrev no_cut : Cut
no_cut = record { at = 0; len = 0 }

module _ {F : Type 0} where
  -- a number holds one block
  holding_one : (m : Meaning F) (n : ℕ) (p q : List F) → n < capacity m → holding m n p ≡ holding m n q → p ≡ q
  holding_one m n p q h e = sym (get_or-set_same m.blocks n p [] h) ∙ ap (λ z. block z n) e ∙ get_or-set_same m.blocks n q [] h

  module _ (m m₁ : Meaning F) (ss : List (Stretch F)) (cuts : List Cut) (i room : ℕ) (here : i < length cuts) (ps : List (List F)) (ns : List ℕ) (len : length ps ≡ i) (w : Putting m ps ns m₁) where
    abbrev cut : Cut
    cut = get_or cuts i no_cut

    -- the parts of the first cuts, by the store before
    abbrev Parts : ℕ → List (List F) → Type 0
    Parts k qs = AllSound m ss → CutsFit room (length (sequence m ss)) cuts → qs ≡ map (cutout (sequence m ss)) (take k cuts)

    -- what a cut promises by the store in which it is put
    abbrev Promised : Type 0 → Type 0
    Promised P = AllSound m₁ ss → CutFits room (length (sequence m₁ ss)) cut → P

    -- the premises hold still
    promised : (P : Type 0) → Promised P → AllSound m ss → CutsFit room (length (sequence m ss)) cuts → P
    promised P told sound fits =
        let fit = All-from_recursion (CutFits room (length (sequence m ss))) cuts fits i no_cut here in
        let same = ap length (sequence_stays m m₁ (putting_keeps w) ss sound) in
        told (all_sound_stay m m₁ (putting_keeps w) ss sound) (fit.0, omega (arith, fit.1))

    -- one block more
    pub record More (n : ℕ) (m₂ : Meaning F) : Type 0 where
      pub parts : List (List F)
      pub count : length parts ≡ i + 1
      pub putting : Putting m parts (ns ++ n ∷ []) m₂
      pub right : Parts (i + 1) parts

    pub more : (n : ℕ) (m₂ : Meaning F) → Parts i ps → Takes m₁ (Ok n) m₂ → Promised (PutsOne m₁ ss cut (Ok n) m₂) → More n m₂
    more n m₂ right takes told = record {
      parts = ps ++ takes.0 ∷ [];
      count = omega (arith, length-append ps (takes.0 ∷ []));
      putting = putting_more w n takes.0 m₂ takes.1 takes.2 takes.3 takes.4 takes.5;
      right = λ sound fits.
          let put = promised _ told sound fits in
          let seq = sequence_stays m m₁ (putting_keeps w) ss sound in
          let part : takes.0 ≡ cutout (sequence m ss) cut = holding_one m₁ n takes.0 (cutout (sequence m₁ ss) cut) takes.2 (sym takes.4 ∙ put.3) ∙ ap (λ z. cutout z cut) seq in
          ap (λ z. z ++ takes.0 ∷ []) (right sound fits) ∙ ap (λ z. map (cutout (sequence m ss)) (take i cuts) ++ z ∷ []) part ∙ sym (map_more (cutout (sequence m ss)) cuts i no_cut here);
    }

    -- the cut at which the putting stops
    pub stopped : (f : StoreFault) (m₂ : Meaning F) → Promised (PutsOne m₁ ss cut (Err f) m₂) → AllSound m ss → CutsFit room (length (sequence m ss)) cuts → Cause m ss cuts f.error f.block
    stopped f m₂ told sound fits =
        let fit = All-from_recursion (CutFits room (length (sequence m ss))) cuts fits i no_cut here in
        let same = ap length (sequence_stays m m₁ (putting_keeps w) ss sound) in
        let long : length (cutout (sequence m₁ ss) cut) ≡ cut.len = length-take-le cut.len (drop cut.at (sequence m₁ ss)) (omega (arith, fit.1, length-drop cut.at (sequence m₁ ss))) in
        cause m ss cuts cut (Contains-get_or cuts i no_cut here) m₁ m₂ f w.ailing w.limit long (omega (arith, putting_vacant w)) (promised _ told sound fits)
