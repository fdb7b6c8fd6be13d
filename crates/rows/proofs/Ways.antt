-- The three ways in which a piece meets the last of the list. Assumes nothing.
use Rattle.std.proofs.Common.{◌≡◌, ℕ, ◌+◌, ◌-◌, ◌/◌, ◌<◌, ◌≤◌, ◌&&◌, leb, Some, None, refl, ⊎_elim, arith}
use Rattle.std.proofs.lemmas.Bool.{cond_both, and_parts, and_cases, leb-true, leb-false}
use Rattle.rows.specs.declared.piece.Piece.{Piece}
use Rattle.rows.specs.declared.mending.Met.{Met}
use Rattle.rows.specs.Pieces.{loose_of}
use Rattle.rows.specs.Mending.{meeting}

-- they stay apart, become one piece of t frames, or two of h and k
pub data Way (L : ℕ) (a p : Piece) : Met → Type 0 where
  apart : L / 2 ≤ a.len → L / 2 ≤ p.len → Way L a p (record { settled = Some a; last = p })
  one : (t : ℕ) → t ≡ a.len + p.len → t ≤ L → (L / 2 ≤ a.len → p.len < L / 2) → Way L a p (record { settled = None; last = loose_of t })
  two : (h k : ℕ) → h + k ≡ a.len + p.len → L / 2 ≤ h → h ≤ k → k ≤ h + 1 → (L / 2 ≤ a.len → p.len < L / 2) → Way L a p (record { settled = Some (loose_of h); last = loose_of k })

pub way : (L : ℕ) (a p : Piece) → Way L a p (meeting L a p)
way L a p =
    let t = a.len + p.len in
    let both = leb (L / 2) a.len && leb (L / 2) p.len in
    cond_both both _ _ (Way L a p)
    (λ e. let ab = and_parts _ _ e in apart (leb-true _ _ ab.0) (leb-true _ _ ab.1))
    (λ e.
    let short : L / 2 ≤ a.len → p.len < L / 2 = λ h. ⊎_elim (λ f. absurd (omega (arith, leb-false (L / 2) a.len f))) (λ f. leb-false (L / 2) p.len f) (and_cases (leb (L / 2) a.len) (leb (L / 2) p.len) e) in
    cond_both (leb t L) _ _ (Way L a p)
    (λ f. one t refl (leb-true _ _ f) short)
    (λ f. let over = leb-false t L f in two (t / 2) (t - t / 2) (omega arith) (omega arith) (omega arith) (omega arith) short))
