-- The pieces that a row has from the position f to the position t. Assumes nothing.
use Rattle.std.specs.Prelude.{◌≡◌, ℕ, ◌+◌, ◌-◌, ◌≤◌, min, cond, List, [], ◌∷◌, ◌++◌, Some, None, Option, ◌==◌, map}
use Rattle.rows.specs.declared.piece.Piece.{Piece}
use Rattle.rows.specs.declared.entry.Entry.{Entry}
use Rattle.rows.specs.Pieces.{loose_of, whole_of, emit, frames, Whole, Stands, NoneEmpty}

-- n frames of a block: nothing, the whole block, or loose frames
abbrev pub piece_of : Entry → ℕ → Option Piece
piece_of e n = cond (n == 0) None (cond (n == e.len) (Some (whole_of e.block n)) (Some (loose_of n)))

-- what of the block at the row's start lies from f to t
abbrev pub part_of : Entry → ℕ → ℕ → Option Piece
part_of e f t = piece_of e (min t e.len - f)

-- each entry gives its part, with the positions counted from its own start
abbrev pub cut : List Entry → ℕ → ℕ → List Piece
cut [] f t = []
cut (e ∷ es) f t = emit (part_of e f t) (cut es (f - e.len) (t - e.len))

-- the row as whole blocks
abbrev pub wholes : List Entry → List Piece
wholes es = map (λ e. whole_of e.block e.len) es

-- What holds of ps, the pieces of the row es from f to t:

-- their lengths add up to the span
abbrev pub AddsUp : List Entry → ℕ → ℕ → List Piece → Type 0
AddsUp es f t ps = f ≤ t → t ≤ frames (wholes es) → frames ps ≡ t - f

-- a whole one stands at its block's own offset, which is f frames further on in the row
abbrev pub OwnOffsets : List Entry → ℕ → List Piece → Type 0
OwnOffsets es f ps = (x : Piece) (o : ℕ) → Whole x → Stands x o ps → Stands x (f + o) (wholes es)

-- a block that lies between f and t is whole
abbrev pub InsideWhole : List Entry → ℕ → ℕ → List Piece → Type 0
InsideWhole es f t ps = (x : Piece) (o : ℕ) → 1 ≤ x.len → f ≤ o → o + x.len ≤ t → Stands x o (wholes es) → Stands x (o - f) ps

-- between two borders, the row's start and end among them, there are the blocks that stand there, each whole
abbrev pub BordersWhole : List Entry → ℕ → ℕ → List Piece → Type 0
BordersWhole es f t ps = (before inner after : List Entry) → es ≡ before ++ (inner ++ after) → f ≡ frames (wholes before) → t ≡ f + frames (wholes inner) → NoneEmpty (wholes inner) → ps ≡ wholes inner
