-- Where a cut's whole blocks stand, and that a block inside the span is one of them. Assumes nothing.
use Rattle.std.proofs.Common.{◌≡◌, ℕ, ◌+◌, ◌-◌, ◌≤◌, List, [], ◌∷◌, Option, sym, ap, subst, inl, inr, ⊎_elim, arith}
use Rattle.std.proofs.lemmas.Bool.{cases_lt}
use Rattle.rows.specs.declared.piece.Piece.{Piece}
use Rattle.rows.specs.declared.entry.Entry.{Entry}
use Rattle.rows.specs.Pieces.{emit, Whole, Stands}
use Rattle.rows.specs.Cutting.{cut, wholes, OwnOffsets, InsideWhole}
use Rattle.rows.proofs.Parts.{Part, past, full, some_of, part, cut_none}

places_part : (e : Entry) (es : List Entry) (f t : ℕ) (x : Piece) → Whole x → {o : Option Piece} → Part e f t o → ((q : ℕ) → Stands x q (cut es (f - e.len) (t - e.len)) → Stands x (f - e.len + q) (wholes es)) → (q : ℕ) → Stands x q (emit o (cut es (f - e.len) (t - e.len))) → Stands x (f + q) (wholes (e ∷ es))
places_part e es f t x w (past h) next q s = inr (f - e.len + q, omega arith, next q s)
places_part e es f t x w (full z h k) next q (inl s) = inl (s.0, omega arith)
places_part e es f t x w (full z h k) next q (inr (r, is, s)) = inr (f - e.len + r, omega arith, next r s)
places_part e es f t x w (some_of n h k m p) next q (inl s) = let z = subst Whole (sym s.0) w in absurd (omega arith)
places_part e es f t x w (some_of n h k m p) next q (inr (r, is, s)) =
    ⊎_elim
    (λ l. absurd (subst (Stands x r) (cut_none es (f - e.len) (t - e.len) (omega arith)) s))
    (λ l. inr (f - e.len + r, omega arith, next r s))
    (cases_lt t e.len)

pub cut_places : (es : List Entry) (f t : ℕ) → OwnOffsets es f (cut es f t)
cut_places [] f t x o w s = absurd s
cut_places (e ∷ es) f t x o w s =
    ⊎_elim
    (λ l. places_part e es f t x w (part e f t l) (λ q. cut_places es (f - e.len) (t - e.len) x q w) o s)
    (λ l. absurd (subst (Stands x o) (cut_none (e ∷ es) f t l) s))
    (cases_lt f t)

inside_part : (e : Entry) (es : List Entry) (f t : ℕ) (x : Piece) (o : ℕ) {p : Option Piece} → Part e f t p → 1 ≤ x.len → f ≤ o → o + x.len ≤ t → ((q : ℕ) → f - e.len ≤ q → q + x.len ≤ t - e.len → Stands x q (wholes es) → Stands x (q - (f - e.len)) (cut es (f - e.len) (t - e.len))) → Stands x o (wholes (e ∷ es)) → Stands x (o - f) (emit p (cut es (f - e.len) (t - e.len)))
inside_part e es f t x o (past h) long low high next (inl (is, z)) = absurd (omega (arith, ap (λ (p : Piece). p.len) is))
inside_part e es f t x o (past h) long low high next (inr (q, at, s)) =
    let same : q - (f - e.len) ≡ o - f = omega arith in
    subst (λ k. Stands x k (cut es (f - e.len) (t - e.len))) same (next q (omega arith) (omega arith) s)
inside_part e es f t x o (full y h k) long low high next (inl (is, z)) = inl (is, omega arith)
inside_part e es f t x o (full y h k) long low high next (inr (q, at, s)) = inr (q - (f - e.len), omega arith, next q (omega arith) (omega arith) s)
inside_part e es f t x o (some_of n h k m p) long low high next (inl (is, z)) = absurd (omega (arith, ap (λ (p : Piece). p.len) is))
inside_part e es f t x o (some_of n h k m p) long low high next (inr (q, at, s)) = inr (q - (f - e.len), omega arith, next q (omega arith) (omega arith) s)

pub cut_inside : (es : List Entry) (f t : ℕ) → InsideWhole es f t (cut es f t)
cut_inside [] f t x o long low high s = absurd s
cut_inside (e ∷ es) f t x o long low high s =
    inside_part e es f t x o (part e f t (omega arith)) long low high (λ q. cut_inside es (f - e.len) (t - e.len) x q long) s
