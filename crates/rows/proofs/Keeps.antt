-- Mending keeps the frames, the sizes and the places of blocks. Assumes nothing.
use Rattle.std.proofs.Common.{◌≡◌, ℕ, ◌+◌, ◌/◌, ◌<◌, ◌≤◌, List, [], ◌∷◌, ◌++◌, take, drop, sym, refl, ap, ◌∙◌, subst, inl, inr, ⊎_elim, arith}
use Rattle.std.specs.List.{AllByRecursion}
use Rattle.std.proofs.lemmas.List.{take_at, drop_at, drop-drop}
use Rattle.std.proofs.lemmas.Bool.{cases_lt}
use Rattle.rows.specs.declared.piece.Piece.{Piece}
use Rattle.rows.specs.declared.mending.Met.{Met}
use Rattle.rows.specs.Pieces.{loose_of, whole_of, emit, frames, Whole, Stands, Within, Sized, WellSized}
use Rattle.rows.specs.Mending.{meeting, mended, mended_from, BlocksStay}
use Rattle.rows.specs.Laws.{Holds, Filled, together, FramesStay}
use Rattle.rows.proofs.Ways.{Way, apart, one, two, way}

module _ (L : ℕ) where
  frames_way : (a p : Piece) (ps : List Piece) {s : Met} → Way L a p s → frames (mended_from L s.last ps) ≡ s.last.len + frames ps → frames (emit s.settled (mended_from L s.last ps)) ≡ a.len + (p.len + frames ps)
  frames_way a p ps (apart u v) e = omega arith
  frames_way a p ps (one t is fit sm) e = omega arith
  frames_way a p ps (two h k is half up down sm) e = omega arith

  frames_from : (a : Piece) (ps : List Piece) → frames (mended_from L a ps) ≡ a.len + frames ps
  frames_from a [] = refl
  frames_from a (p ∷ ps) = frames_way a p ps (way L a p) (frames_from (meeting L a p).last ps)

  sized_way : (a p : Piece) (ps : List Piece) {s : Met} → Way L a p s → Sized L a → p.len ≤ L → (Sized L s.last → AllByRecursion (Sized L) (mended_from L s.last ps)) → AllByRecursion (Sized L) (emit s.settled (mended_from L s.last ps))
  sized_way a p ps (apart u v) h w next = (h, next (omega arith, w))
  sized_way a p ps (one t is fit sm) h w next = next (omega arith, omega arith)
  sized_way a p ps (two m k is half up down small) h w next = let s = small h.0 in ((omega arith, omega arith), next (omega arith, omega arith))

  sized_from : (a : Piece) (ps : List Piece) → Sized L a → AllByRecursion (Within L) ps → AllByRecursion (Sized L) (mended_from L a ps)
  sized_from a [] h ws = (h, tt)
  sized_from a (p ∷ ps) h ws = sized_way a p ps (way L a p) h ws.0.1 (λ k. sized_from (meeting L a p).last ps k ws.1)

  well_way : (a p : Piece) (ps : List Piece) {s : Met} → Way L a p s → 1 ≤ a.len → a.len < L / 2 → p.len ≤ L → (Sized L s.last → AllByRecursion (Sized L) (mended_from L s.last ps)) → (1 ≤ s.last.len → s.last.len < L / 2 → WellSized L (mended_from L s.last ps)) → WellSized L (emit s.settled (mended_from L s.last ps))
  well_way a p ps (apart u v) low h w big small = absurd (omega arith)
  well_way a p ps (one t is fit sm) low h w big small = ⊎_elim (small (omega arith)) (λ g. inl (big (g, omega arith))) (cases_lt t (L / 2))
  well_way a p ps (two m k is half up down sm) low h w big small = inl ((omega arith, omega arith), big (omega arith, omega arith))

  well_from : (a : Piece) (ps : List Piece) → 1 ≤ a.len → a.len < L / 2 → AllByRecursion (Within L) ps → WellSized L (mended_from L a ps)
  well_from a [] low h ws = inr (a, refl, low, h)
  well_from a (p ∷ ps) low h ws = well_way a p ps (way L a p) low h ws.0.1 (λ k. sized_from (meeting L a p).last ps k ws.1) (λ g k. well_from (meeting L a p).last ps g k ws.1)

  untouched_way : (a p : Piece) (ps : List Piece) {s : Met} → Way L a p s → Sized L a → Sized L p → mended_from L p ps ≡ p ∷ ps → emit s.settled (mended_from L s.last ps) ≡ a ∷ p ∷ ps
  untouched_way a p ps (apart u v) h k e = ap (λ qs. a ∷ qs) e
  untouched_way a p ps (one t is fit sm) h k e = absurd (omega (arith, sm h.0))
  untouched_way a p ps (two m n is half up down sm) h k e = absurd (omega (arith, sm h.0))

  untouched_from : (a : Piece) (ps : List Piece) → Sized L a → AllByRecursion (Sized L) ps → mended_from L a ps ≡ a ∷ ps
  untouched_from a [] h zs = refl
  untouched_from a (p ∷ ps) h zs = untouched_way a p ps (way L a p) h zs.0 (untouched_from p ps zs.0 zs.1)

  not_loose : (n : ℕ) (x : Piece) → Whole x → loose_of n ≡ x → ⊥
  not_loose n x w e = let z = subst Whole (sym e) w in omega arith

  stays_way : (x : Piece) → Whole x → (a p : Piece) (ps : List Piece) {s : Met} → Way L a p s → ((o : ℕ) → Stands x o (mended_from L s.last ps) → Stands x o (s.last ∷ ps)) → (o : ℕ) → Stands x o (emit s.settled (mended_from L s.last ps)) → Stands x o (a ∷ p ∷ ps)
  stays_way x w a p ps (apart u v) next o (inl h) = inl h
  stays_way x w a p ps (apart u v) next o (inr (q, e, h)) = inr (q, e, next q h)
  stays_way x w a p ps (one t is fit sm) next o h =
      ⊎_elim (λ k. absurd (not_loose t x w k.0)) (λ k. inr (p.len + k.0, omega arith, inr (k.0, refl, k.2))) (next o h)
  stays_way x w a p ps (two m n is half up down sm) next o (inl h) = absurd (not_loose m x w h.0)
  stays_way x w a p ps (two m n is half up down sm) next o (inr (q, e, h)) =
      ⊎_elim (λ k. absurd (not_loose n x w k.0)) (λ k. inr (p.len + k.0, omega arith, inr (k.0, refl, k.2))) (next q h)

  stays_from : (x : Piece) → Whole x → (a : Piece) (ps : List Piece) (o : ℕ) → Stands x o (mended_from L a ps) → Stands x o (a ∷ ps)
  stays_from x w a [] o h = h
  stays_from x w a (p ∷ ps) o h = stays_way x w a p ps (way L a p) (stays_from x w (meeting L a p).last ps) o h

pub frames_kept : (L : ℕ) (ps : List Piece) → frames (mended L ps) ≡ frames ps
frames_kept L [] = refl
frames_kept L (p ∷ ps) = frames_from L p ps

pub sizes_stand : (L : ℕ) (ps : List Piece) → AllByRecursion (Within L) ps → WellSized L (mended L ps)
sizes_stand L [] ws = inl tt
sizes_stand L (p ∷ ps) ws =
    ⊎_elim (λ h. well_from L p ps ws.0.0 h ws.1) (λ h. inl (sized_from L p ps (h, ws.0.1) ws.1)) (cases_lt p.len (L / 2))

pub sizes_untouched : (L : ℕ) (ps : List Piece) → WellSized L ps → mended L ps ≡ ps
sizes_untouched L [] (inl zs) = refl
sizes_untouched L (p ∷ ps) (inl zs) = untouched_from L p ps zs.0 zs.1
sizes_untouched L ps (inr (p, is, low, h)) = ap (mended L) is ∙ sym is

pub blocks_stay : (L : ℕ) (ps : List Piece) → BlocksStay ps (mended L ps)
blocks_stay L [] x o w h = h
blocks_stay L (p ∷ ps) x o w h = stays_from L x w p ps o h

-- what stands in the pieces stands in their frames
filled_at : {X : Type 0} (blocks : ℕ → List X) (ps : List Piece) (fs : List (List X)) → Filled blocks ps fs → (b n o : ℕ) → Stands (whole_of b n) o ps → take n (drop o (together fs)) ≡ blocks b
filled_at blocks [] fs h b n o s = absurd s
filled_at blocks (p ∷ ps) [] h b n o s = absurd h
filled_at blocks (p ∷ ps) (f ∷ fs) (long, holds, rest) b n o (inl (is, z)) =
    ap (λ i. take n (drop i (f ++ together fs))) z
    ∙ take_at f (together fs) n (long ∙ ap (λ (q : Piece). q.len) is)
    ∙ subst (λ (q : Piece). Holds blocks q.block f) is holds
filled_at blocks (p ∷ ps) (f ∷ fs) (long, holds, rest) b n o (inr (q, e, s)) =
    ap (λ i. take n (drop i (f ++ together fs))) e
    ∙ sym (ap (take n) (drop-drop q p.len (f ++ together fs)))
    ∙ ap (λ l. take n (drop q l)) (drop_at f (together fs) p.len long)
    ∙ filled_at blocks ps fs rest b n q s

pub frames_stay_lem : (X : Type 0) → FramesStay X
frames_stay_lem X L blocks ps fs h b n o s = filled_at blocks ps fs h b n o (blocks_stay L ps (whole_of b n) o refl s)
