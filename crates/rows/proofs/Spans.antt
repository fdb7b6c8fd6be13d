-- What a cut of a well-sized row has: whole blocks, with at most one loose piece at each end. Assumes nothing.
use Rattle.std.proofs.Common.{◌≡◌, ℕ, ◌+◌, ◌-◌, ◌/◌, ◌<◌, ◌≤◌, min, ◌⊎◌, List, [], ◌∷◌, ◌++◌, Option, refl, ap, ◌∙◌, inl, inr, ⊎_elim, arith}
use Rattle.std.specs.List.{AllByRecursion}
use Rattle.std.proofs.ByRecursion.{All-weaker}
use Rattle.std.proofs.lemmas.Bool.{cases_lt}
use Rattle.rows.specs.declared.piece.Piece.{Piece}
use Rattle.rows.specs.declared.entry.Entry.{Entry}
use Rattle.rows.specs.Pieces.{loose_of, whole_of, emit, frames, Whole, Sized, WellSized}
use Rattle.rows.specs.Cutting.{cut, wholes}
use Rattle.rows.specs.Laws.{FullBlocks, RowBlocks, OneLoose}
use Rattle.rows.proofs.Parts.{Part, past, full, some_of, part, cut_none}

-- ps, from f to t of a row of `all` frames: a cut block's end, whole blocks, a cut block's front
pub record Span (L f t all : ℕ) (ps : List Piece) : Type 0 where
  pub left : List Piece
  pub middle : List Piece
  pub right : List Piece
  pub joined : ps ≡ left ++ (middle ++ right)
  pub left_is : (left ≡ []) ⊎ (OneLoose L left × FullBlocks L middle)
  pub middle_is : RowBlocks L middle
  pub right_is : (right ≡ []) ⊎ OneLoose L right
  pub from_start : f ≡ 0 → left ≡ []
  pub to_end : all ≤ t → right ≡ []

module _ (L : ℕ) where
  row_of : (ps : List Piece) → FullBlocks L ps → RowBlocks L ps
  row_of ps bs =
      (All-weaker (λ p. Whole p × Sized L p) Whole (λ p h. h.0) ps bs, inl (All-weaker (λ p. Whole p × Sized L p) (Sized L) (λ p h. h.1) ps bs))

  -- a span whose blocks are all full
  record FullSpan (f t all : ℕ) (ps : List Piece) : Type 0 where
    span : Span L f t all ps
    blocks : FullBlocks L span.middle

  empty : (f t all : ℕ) (ps : List Piece) → ps ≡ [] → FullSpan f t all ps
  empty f t all ps e = record {
    span = record { left = []; middle = []; right = []; joined = e; left_is = inl refl; middle_is = (tt, inl tt); right_is = inl refl; from_start = λ _. refl; to_end = λ _. refl };
    blocks = tt;
  }

  -- n frames of a block that is cut: its front if the span begins with it, else its end
  loose_part : (e : Entry) (f t all n : ℕ) (rest : List Piece) → e.len ≤ L → f < e.len → n + f ≡ min t e.len → n < e.len → 1 ≤ n → (t ≤ e.len → rest ≡ []) → FullSpan (f - e.len) (t - e.len) all rest → FullSpan f t (e.len + all) (loose_of n ∷ rest)
  loose_part e f t all n rest fit h k m p none r =
      let s = r.span in
      let loose : OneLoose L (loose_of n ∷ []) = (n, refl, p, omega arith) in
      ⊎_elim
      (λ at_start. record {
        span = record {
          left = [];
          middle = [];
          right = loose_of n ∷ [];
          joined = ap (λ ps. loose_of n ∷ ps) (none (omega arith));
          left_is = inl refl;
          middle_is = (tt, inl tt);
          right_is = inr loose;
          from_start = λ _. refl;
          to_end = λ q. absurd (omega arith);
        };
        blocks = tt;
      })
      (λ later. record {
        span = record {
          left = loose_of n ∷ [];
          middle = s.middle;
          right = s.right;
          joined = ap (λ ps. loose_of n ∷ ps) (s.joined ∙ ap (λ ls. ls ++ (s.middle ++ s.right)) (s.from_start (omega arith)));
          left_is = inr (loose, r.blocks);
          middle_is = s.middle_is;
          right_is = s.right_is;
          from_start = λ q. absurd (omega arith);
          to_end = λ q. s.to_end (omega arith);
        };
        blocks = r.blocks;
      })
      (cases_lt f 1)

  full_part : (e : Entry) (f t all : ℕ) (rest : List Piece) {o : Option Piece} → Part e f t o → Sized L (whole_of e.block e.len) → (t ≤ e.len → rest ≡ []) → FullSpan (f - e.len) (t - e.len) all rest → FullSpan f t (e.len + all) (emit o rest)
  full_part e f t all rest (past h) z none r =
      let s = r.span in
      record {
        span = record {
          left = s.left;
          middle = s.middle;
          right = s.right;
          joined = s.joined;
          left_is = s.left_is;
          middle_is = s.middle_is;
          right_is = s.right_is;
          from_start = λ q. s.from_start (omega arith);
          to_end = λ q. s.to_end (omega arith);
        };
        blocks = r.blocks;
      }
  full_part e f t all rest (full k h l) z none r =
      let s = r.span in
      let whole = whole_of e.block e.len in
      let blocks : FullBlocks L (whole ∷ s.middle) = ((refl, z), r.blocks) in
      record {
        span = record {
          left = [];
          middle = whole ∷ s.middle;
          right = s.right;
          joined = ap (λ ps. whole ∷ ps) (s.joined ∙ ap (λ ls. ls ++ (s.middle ++ s.right)) (s.from_start (omega arith)));
          left_is = inl refl;
          middle_is = row_of (whole ∷ s.middle) blocks;
          right_is = s.right_is;
          from_start = λ _. refl;
          to_end = λ q. s.to_end (omega arith);
        };
        blocks = blocks;
      }
  full_part e f t all rest (some_of n h k m p) z none r = loose_part e f t all n rest z.1 h k m p none r

  full_span : (es : List Entry) (f t : ℕ) → AllByRecursion (Sized L) (wholes es) → FullSpan f t (frames (wholes es)) (cut es f t)
  full_span [] f t zs = empty f t 0 [] refl
  full_span (e ∷ es) f t zs =
      ⊎_elim
      (λ l. full_part e f t (frames (wholes es)) (cut es (f - e.len) (t - e.len)) (part e f t l) zs.0 (λ k. cut_none es (f - e.len) (t - e.len) (omega arith)) (full_span es (f - e.len) (t - e.len) zs.1))
      (λ l. empty f t _ _ (cut_none (e ∷ es) f t l))
      (cases_lt f t)

  short_part : (e : Entry) (f t : ℕ) {o : Option Piece} → Part e f t o → e.len < L / 2 → Span L f t (e.len + 0) (emit o [])
  short_part e f t (past h) z = (empty f t _ [] refl).span
  short_part e f t (full k h l) z = record {
    left = [];
    middle = whole_of e.block e.len ∷ [];
    right = [];
    joined = refl;
    left_is = inl refl;
    middle_is = ((refl, tt), inr (whole_of e.block e.len, refl, l, z));
    right_is = inl refl;
    from_start = λ _. refl;
    to_end = λ _. refl;
  }
  short_part e f t (some_of n h k m p) z = (loose_part e f t 0 n [] (omega arith) h k m p (λ _. refl) (empty _ _ 0 [] refl)).span

  short_span : (es : List Entry) (p : Piece) (f t : ℕ) → wholes es ≡ p ∷ [] → p.len < L / 2 → Span L f t (frames (wholes es)) (cut es f t)
  short_span [] p f t is h = (empty f t 0 [] refl).span
  short_span (e ∷ []) p f t is h =
      let same : e.len + 0 ≡ p.len + 0 = ap frames is in
      ⊎_elim (λ l. short_part e f t (part e f t l) (omega arith)) (λ l. (empty f t _ _ (cut_none (e ∷ []) f t l)).span) (cases_lt f t)
  short_span (e ∷ d ∷ es) p f t is h = let z : ◌≡◌ {A = ℕ} 0 1 = cc in absurd (omega arith)

  pub span_of : (es : List Entry) (f t : ℕ) → WellSized L (wholes es) → Span L f t (frames (wholes es)) (cut es f t)
  span_of es f t (inl zs) = (full_span es f t zs).span
  span_of es f t (inr (p, is, low, h)) = short_span es p f t is h
