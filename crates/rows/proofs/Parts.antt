-- What an entry gives to a cut, and the lengths of a cut's pieces. Assumes nothing.
use Rattle.std.proofs.Common.{◌≡◌, ℕ, ◌+◌, ◌-◌, ◌<◌, ◌≤◌, min, eqb, List, [], ◌∷◌, Some, None, Option, sym, refl, ap, ◌∙◌, subst, ⊎_elim, arith}
use Rattle.std.specs.List.{AllByRecursion}
use Rattle.std.proofs.lemmas.Bool.{cond_both, eqb-true, eqb-false, cases_lt}
use Rattle.rows.specs.declared.piece.Piece.{Piece}
use Rattle.rows.specs.declared.entry.Entry.{Entry}
use Rattle.rows.specs.Pieces.{loose_of, whole_of, emit, frames, count_of_new, NoneEmpty, Within}
use Rattle.rows.specs.Cutting.{part_of, cut, wholes, AddsUp}

-- nothing of a block that ends before f, the whole block, or n of its frames
pub data Part (e : Entry) (f t : ℕ) : Option Piece → Type 0 where
  past : e.len ≤ f → Part e f t None
  full : f ≡ 0 → e.len ≤ t → 1 ≤ e.len → Part e f t (Some (whole_of e.block e.len))
  some_of : (n : ℕ) → f < e.len → n + f ≡ min t e.len → n < e.len → 1 ≤ n → Part e f t (Some (loose_of n))

pub part : (e : Entry) (f t : ℕ) → f < t → Part e f t (part_of e f t)
part e f t h =
    let n = min t e.len - f in
    cond_both (eqb n 0) _ _ (Part e f t)
    (λ z. past (omega (arith, eqb-true n 0 z)))
    (λ z.
    let nz : 1 ≤ n = ⊎_elim (λ l. absurd (eqb-false n 0 z (omega arith))) (λ l. l) (cases_lt n 1) in
    cond_both (eqb n e.len) _ _ (Part e f t)
    (λ w. let is = eqb-true n e.len w in subst (λ m. Part e f t (Some (whole_of e.block m))) (sym is) (full (omega arith) (omega arith) (omega arith)))
    (λ w.
    let lt : n < e.len = ⊎_elim (λ l. l) (λ l. absurd (eqb-false n e.len w (omega arith))) (cases_lt n e.len) in
    some_of n (omega arith) (omega arith) lt nz))

pub part_none : (e : Entry) (f t : ℕ) → min t e.len ≤ f → part_of e f t ≡ None
part_none e f t h =
    let n = min t e.len - f in
    cond_both (eqb n 0) None _ (λ o. o ≡ None) (λ z. refl) (λ z. absurd (eqb-false n 0 z (omega arith)))

-- nothing lies between positions that do not rise
pub cut_none : (es : List Entry) (f t : ℕ) → t ≤ f → cut es f t ≡ []
cut_none [] f t h = refl
cut_none (e ∷ es) f t h =
    ap (λ o. emit o (cut es (f - e.len) (t - e.len))) (part_none e f t (omega arith)) ∙ cut_none es (f - e.len) (t - e.len) (omega arith)

frames_part : (e : Entry) (es : List Entry) (f t : ℕ) {o : Option Piece} → Part e f t o → f < t → frames (cut es (f - e.len) (t - e.len)) ≡ min (t - e.len) (frames (wholes es)) - min (f - e.len) (frames (wholes es)) → frames (emit o (cut es (f - e.len) (t - e.len))) ≡ min t (e.len + frames (wholes es)) - min f (e.len + frames (wholes es))
frames_part e es f t (past h) l ih = omega arith
frames_part e es f t (full z h k) l ih = omega arith
frames_part e es f t (some_of n h k m p) l ih = omega arith

-- the frames of a cut at any two positions
pub frames_between : (es : List Entry) (f t : ℕ) → frames (cut es f t) ≡ min t (frames (wholes es)) - min f (frames (wholes es))
frames_between [] f t = omega arith
frames_between (e ∷ es) f t =
    ⊎_elim
    (λ l. frames_part e es f t (part e f t l) l (frames_between es (f - e.len) (t - e.len)))
    (λ l. ap frames (cut_none (e ∷ es) f t l) ∙ omega arith)
    (cases_lt f t)

pub cut_frames : (es : List Entry) (f t : ℕ) → AddsUp es f t (cut es f t)
cut_frames es f t h k = omega (arith, frames_between es f t)

-- from the row's start on only the last block can be cut
one_part : (e : Entry) (es : List Entry) (f t : ℕ) {o : Option Piece} → Part e f t o → f ≡ 0 → count_of_new (cut es (f - e.len) (t - e.len)) ≤ 1 → count_of_new (emit o (cut es (f - e.len) (t - e.len))) ≤ 1
one_part e es f t (past h) z ih = ih
one_part e es f t (full y h k) z ih = omega arith
one_part e es f t (some_of n h k m p) z ih = omega (arith, ap count_of_new (cut_none es (f - e.len) (t - e.len) (omega arith)))

one_loose : (es : List Entry) (f t : ℕ) → f ≡ 0 → count_of_new (cut es f t) ≤ 1
one_loose [] f t z = omega arith
one_loose (e ∷ es) f t z =
    ⊎_elim
    (λ l. one_part e es f t (part e f t l) z (one_loose es (f - e.len) (t - e.len) (omega arith)))
    (λ l. omega (arith, ap count_of_new (cut_none (e ∷ es) f t l)))
    (cases_lt f t)

two_part : (e : Entry) (es : List Entry) (f t : ℕ) {o : Option Piece} → Part e f t o → count_of_new (cut es (f - e.len) (t - e.len)) ≤ 2 → count_of_new (emit o (cut es (f - e.len) (t - e.len))) ≤ 2
two_part e es f t (past h) ih = ih
two_part e es f t (full y h k) ih = omega arith
two_part e es f t (some_of n h k m p) ih = omega (arith, one_loose es (f - e.len) (t - e.len) (omega arith))

pub cut_loose : (es : List Entry) (f t : ℕ) → count_of_new (cut es f t) ≤ 2
cut_loose [] f t = omega arith
cut_loose (e ∷ es) f t =
    ⊎_elim
    (λ l. two_part e es f t (part e f t l) (cut_loose es (f - e.len) (t - e.len)))
    (λ l. omega (arith, ap count_of_new (cut_none (e ∷ es) f t l)))
    (cases_lt f t)

filled_part : (e : Entry) (f t : ℕ) (rest : List Piece) {o : Option Piece} → Part e f t o → NoneEmpty rest → NoneEmpty (emit o rest)
filled_part e f t rest (past h) r = r
filled_part e f t rest (full z h k) r = (k, r)
filled_part e f t rest (some_of n h k m p) r = (p, r)

pub cut_filled : (es : List Entry) (f t : ℕ) → NoneEmpty (cut es f t)
cut_filled [] f t = tt
cut_filled (e ∷ es) f t =
    ⊎_elim
    (λ l. filled_part e f t (cut es (f - e.len) (t - e.len)) (part e f t l) (cut_filled es (f - e.len) (t - e.len)))
    (λ l. subst NoneEmpty (sym (cut_none (e ∷ es) f t l)) tt)
    (cases_lt f t)

within_part : (L : ℕ) (e : Entry) (f t : ℕ) (rest : List Piece) {o : Option Piece} → Part e f t o → e.len ≤ L → AllByRecursion (Within L) rest → AllByRecursion (Within L) (emit o rest)
within_part L e f t rest (past h) z r = r
within_part L e f t rest (full k h l) z r = ((l, z), r)
within_part L e f t rest (some_of n h k m p) z r = ((p, omega arith), r)

-- no piece is longer than the longest block
pub within_cut : (L : ℕ) (es : List Entry) (f t : ℕ) → AllByRecursion (Within L) (wholes es) → AllByRecursion (Within L) (cut es f t)
within_cut L [] f t zs = tt
within_cut L (e ∷ es) f t zs =
    ⊎_elim
    (λ l. within_part L e f t (cut es (f - e.len) (t - e.len)) (part e f t l) zs.0.1 (within_cut L es (f - e.len) (t - e.len) zs.1))
    (λ l. subst (AllByRecursion (Within L)) (sym (cut_none (e ∷ es) f t l)) tt)
    (cases_lt f t)
