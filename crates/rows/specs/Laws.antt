-- What holds of a row that is cut, changed and mended under the block limit L, which may be any number here. Assumes nothing.
use Rattle.std.specs.Prelude.{◌≡◌, ℕ, ◌+◌, ◌-◌, ◌≤◌, ◌⊎◌, List, [], ◌∷◌, ◌++◌, length, take, drop, Some, None, Option}
use Rattle.std.specs.List.{AllByRecursion}
use Rattle.rows.specs.declared.piece.Piece.{Piece}
use Rattle.rows.specs.declared.entry.Entry.{Entry}
use Rattle.rows.specs.Pieces.{loose_of, whole_of, frames, count_of_new, Whole, Stands, NoneEmpty, Sized, WellSized}
use Rattle.rows.specs.Mending.{mended}
use Rattle.rows.specs.Cutting.{cut, wholes}

-- whole blocks, each of at least half the limit
abbrev pub FullBlocks : ℕ → List Piece → Type 0
FullBlocks L ps = AllByRecursion (λ p. Whole p × Sized L p) ps

-- the blocks of a well-sized row, all of them
abbrev pub RowBlocks : ℕ → List Piece → Type 0
RowBlocks L ps = AllByRecursion Whole ps × WellSized L ps

-- one loose piece that a cut block gave, or that was handed in
abbrev pub OneLoose : ℕ → List Piece → Type 0
OneLoose L ps = (n : ℕ) × (ps ≡ loose_of n ∷ []) × (1 ≤ n) × (n ≤ L)

-- what an edit puts in: a row's blocks, which may be none, or one loose piece
abbrev pub PutIn : ℕ → List Piece → Type 0
PutIn L ps = RowBlocks L ps ⊎ OneLoose L ps

-- What an edit mends: the blocks before it, what a cut block leaves there, what is put in, what a cut block leaves
-- after that, and the blocks behind. A row with a cut block and others has no short one, so the last are full.
pub record Edited (L : ℕ) (ps : List Piece) : Type 0 where
  pub before : List Piece
  pub left : List Piece
  pub middle : List Piece
  pub right : List Piece
  pub after : List Piece
  pub joined : ps ≡ before ++ (left ++ (middle ++ (right ++ after)))
  pub begins : RowBlocks L before
  pub cut_left : (left ≡ []) ⊎ OneLoose L left
  pub put_in : PutIn L middle
  pub ends : ((right ≡ []) × RowBlocks L after) ⊎ (OneLoose L right × FullBlocks L after)

-- a row with the pieces ms in place of what lies from f to t: delete, insert, paste and overwrite
abbrev pub spliced : List Entry → ℕ → ℕ → List Piece → List Piece
spliced es f t ms = cut es 0 f ++ (ms ++ cut es t (frames (wholes es)))

-- a well-sized row that is spliced is what an edit mends
abbrev pub SpliceShape : Type 0
SpliceShape = (L : ℕ) (es : List Entry) (f t : ℕ) (ms : List Piece) → WellSized L (wholes es) → PutIn L ms → Edited L (spliced es f t ms)

-- mended, it has at most four new blocks
abbrev pub SpliceFew : Type 0
SpliceFew = (L : ℕ) (es : List Entry) (f t : ℕ) (ms : List Piece) → WellSized L (wholes es) → PutIn L ms → count_of_new (mended L (spliced es f t ms)) ≤ 4

-- it is well-sized again
abbrev pub SpliceSized : Type 0
SpliceSized = (L : ℕ) (es : List Entry) (f t : ℕ) (ms : List Piece) → 2 ≤ L → WellSized L (wholes es) → PutIn L ms → WellSized L (mended L (spliced es f t ms))

-- it has the frames before f, those put in and those from t on
abbrev pub SpliceFrames : Type 0
SpliceFrames = (L : ℕ) (es : List Entry) (f t : ℕ) (ms : List Piece) → f ≤ t → t ≤ frames (wholes es) → frames (mended L (spliced es f t ms)) ≡ f + frames ms + (frames (wholes es) - t)

-- a span that is copied from a well-sized row is what an edit mends
abbrev pub CopyShape : Type 0
CopyShape = (L : ℕ) (es : List Entry) (f t : ℕ) → WellSized L (wholes es) → Edited L (cut es f t)

-- mended, it has at most four new blocks
abbrev pub CopyFew : Type 0
CopyFew = (L : ℕ) (es : List Entry) (f t : ℕ) → WellSized L (wholes es) → count_of_new (mended L (cut es f t)) ≤ 4

-- it is well-sized
abbrev pub CopySized : Type 0
CopySized = (L : ℕ) (es : List Entry) (f t : ℕ) → 2 ≤ L → WellSized L (wholes es) → WellSized L (mended L (cut es f t))

-- it has as many frames as the span
abbrev pub CopyFrames : Type 0
CopyFrames = (L : ℕ) (es : List Entry) (f t : ℕ) → f ≤ t → t ≤ frames (wholes es) → frames (mended L (cut es f t)) ≡ t - f

-- a cut where before and after meet leaves every block of either whole
abbrev pub BorderWhole : Type 0
BorderWhole = (before after : List Entry) → NoneEmpty (wholes before) → NoneEmpty (wholes after) → (cut (before ++ after) 0 (frames (wholes before)) ≡ wholes before) × (cut (before ++ after) (frames (wholes before)) (frames (wholes (before ++ after))) ≡ wholes after)

-- f are the frames that the block holds, if it is one
abbrev pub Holds : {X : Type 0} → (ℕ → List X) → Option ℕ → List X → Type 0
Holds blocks None f = Unit {0}
Holds blocks (Some b) f = f ≡ blocks b

-- fs are the frames of each piece
abbrev pub Filled : {X : Type 0} → (ℕ → List X) → List Piece → List (List X) → Type 0
Filled blocks [] [] = Unit {0}
Filled blocks [] (f ∷ fs) = ⊥
Filled blocks (p ∷ ps) [] = ⊥
Filled blocks (p ∷ ps) (f ∷ fs) = (length f ≡ p.len) × Holds blocks p.block f × Filled blocks ps fs

-- the frames of all the pieces, joined
abbrev pub together : {X : Type 0} → List (List X) → List X
together [] = []
together (f ∷ fs) = f ++ together fs

-- the joined frames, cut where a kept block stands in the mended list, give the block's own frames
abbrev pub FramesStay : Type 0 → Type 0
FramesStay X = (L : ℕ) (blocks : ℕ → List X) (ps : List Piece) (fs : List (List X)) → Filled blocks ps fs → (b n o : ℕ) → Stands (whole_of b n) o (mended L ps) → take n (drop o (together fs)) ≡ blocks b
