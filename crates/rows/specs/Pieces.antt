-- Lists of pieces: their frames, their sizes under the block limit L, and where a piece stands. Assumes nothing.
use Rattle.std.specs.Prelude.{◌≡◌, ℕ, ◌+◌, ◌/◌, ◌<◌, ◌≤◌, ◌⊎◌, List, [], ◌∷◌, ◌++◌, Some, None, Option, option_to_list}
use Rattle.std.specs.List.{AllByRecursion}
use Rattle.rows.specs.declared.piece.Piece.{Piece}

-- n frames that are no whole old block
abbrev pub loose_of : ℕ → Piece
loose_of n = record { block = None; len = n }

-- the whole of the old block b, which has n frames
abbrev pub whole_of : ℕ → ℕ → Piece
whole_of b n = record { block = Some b; len = n }

-- a piece, if there is one, in front of others
abbrev pub emit : Option Piece → List Piece → List Piece
emit o ps = option_to_list o ++ ps

-- how many frames the pieces have in all
abbrev pub frames : List Piece → ℕ
frames [] = 0
frames (p ∷ ps) = p.len + frames ps

-- 1 for loose frames and 0 for a block
abbrev pub one_if_loose : Option ℕ → ℕ
one_if_loose None = 1
one_if_loose (Some b) = 0

-- how many pieces are no old block, and so become new ones
abbrev pub count_of_new : List Piece → ℕ
count_of_new [] = 0
count_of_new (p ∷ ps) = one_if_loose p.block + count_of_new ps

-- the piece is a whole old block
abbrev pub Whole : Piece → Type 0
Whole p = one_if_loose p.block ≡ 0

-- the piece x stands in the list after o frames
abbrev pub Stands : Piece → ℕ → List Piece → Type 0
Stands x o [] = ⊥
Stands x o (p ∷ ps) = ((p ≡ x) × (o ≡ 0)) ⊎ ((q : ℕ) × (o ≡ p.len + q) × Stands x q ps)

-- each piece has a frame
abbrev pub NoneEmpty : List Piece → Type 0
NoneEmpty ps = AllByRecursion (λ p. 1 ≤ p.len) ps

-- the piece has 1 to L frames
abbrev pub Within : ℕ → Piece → Type 0
Within L p = (1 ≤ p.len) × (p.len ≤ L)

-- the piece has from half the limit to the limit
abbrev pub Sized : ℕ → Piece → Type 0
Sized L p = (L / 2 ≤ p.len) × (p.len ≤ L)

-- a single piece, neither empty nor as long as half the limit
abbrev pub Short : ℕ → List Piece → Type 0
Short L ps = (p : Piece) × (ps ≡ p ∷ []) × (1 ≤ p.len) × (p.len < L / 2)

-- the sizes that the blocks of every row have
abbrev pub WellSized : ℕ → List Piece → Type 0
WellSized L ps = AllByRecursion (Sized L) ps ⊎ Short L ps
