-- A cut at a border leaves every block whole. Assumes nothing.
use Rattle.std.proofs.Common.{◌≡◌, ℕ, ◌+◌, ◌-◌, ◌≤◌, List, [], ◌∷◌, ◌++◌, Some, Option, sym, refl, ap, ◌∙◌, append-nil, arith}
use Rattle.rows.specs.declared.piece.Piece.{Piece}
use Rattle.rows.specs.declared.entry.Entry.{Entry}
use Rattle.rows.specs.Pieces.{whole_of, emit, frames, NoneEmpty}
use Rattle.rows.specs.Cutting.{cut, wholes, BordersWhole}
use Rattle.rows.specs.Laws.{BorderWhole}
use Rattle.rows.proofs.Parts.{Part, past, full, some_of, part, part_none, cut_none}

-- what lies behind a row's first entries does not depend on them
pub cut_behind : (before es : List Entry) (f t : ℕ) → cut (before ++ es) (frames (wholes before) + f) (frames (wholes before) + t) ≡ cut es f t
cut_behind [] es f t =
    let from : 0 + f ≡ f = omega arith in
    let to : 0 + t ≡ t = omega arith in
    λ i. cut es (from i) (to i)
cut_behind (e ∷ before) es f t =
    let n = frames (wholes before) in
    let from : e.len + n + f - e.len ≡ n + f = omega arith in
    let to : e.len + n + t - e.len ≡ n + t = omega arith in
    (λ i. emit (part_none e (e.len + n + f) (e.len + n + t) (omega arith) i) (cut (before ++ es) (from i) (to i))) ∙ cut_behind before es f t

whole_part : (e : Entry) (t : ℕ) {o : Option Piece} → Part e 0 t o → 1 ≤ e.len → e.len ≤ t → o ≡ Some (whole_of e.block e.len)
whole_part e t (past h) low fit = absurd (omega arith)
whole_part e t (full z h k) low fit = refl
whole_part e t (some_of n h k m p) low fit = absurd (omega arith)

-- a row's first entries, up to the border behind them
pub cut_front : (inner after : List Entry) → NoneEmpty (wholes inner) → cut (inner ++ after) 0 (frames (wholes inner)) ≡ wholes inner
cut_front [] after filled = cut_none after 0 0 (omega arith)
cut_front (e ∷ inner) after (low, filled) =
    let n = frames (wholes inner) in
    let from : 0 - e.len ≡ 0 = omega arith in
    let to : e.len + n - e.len ≡ n = omega arith in
    (λ i. emit (whole_part e (e.len + n) (part e 0 (e.len + n) (omega arith)) low (omega arith) i) (cut (inner ++ after) (from i) (to i)))
    ∙ ap (λ ps. whole_of e.block e.len ∷ ps) (cut_front inner after filled)

pub cut_borders : (es : List Entry) (f t : ℕ) → BordersWhole es f t (cut es f t)
cut_borders es f t before inner after is at_start at_end filled =
    let n = frames (wholes before) in
    let from : f ≡ n + 0 = omega arith in
    let to : t ≡ n + frames (wholes inner) = omega arith in
    (λ i. cut (is i) (from i) (to i)) ∙ cut_behind before (inner ++ after) 0 (frames (wholes inner)) ∙ cut_front inner after filled

pub wholes_frames : (before after : List Entry) → frames (wholes (before ++ after)) ≡ frames (wholes before) + frames (wholes after)
wholes_frames [] after = omega arith
wholes_frames (e ∷ before) after = omega (arith, wholes_frames before after)

pub border_whole_lem : BorderWhole
border_whole_lem before after left right =
    (cut_front before after left, cut_borders (before ++ after) _ _ before after [] (ap (λ es. before ++ es) (sym (append-nil after))) refl (wholes_frames before after) right)
