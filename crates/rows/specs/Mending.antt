-- Mending with the block limit L: pieces are taken from left to right, and too short neighbours are joined. Assumes nothing.
use Rattle.std.specs.Prelude.{ℕ, ◌+◌, ◌-◌, ◌/◌, cond, ◌&&◌, List, [], ◌∷◌, Some, None, nat_le}
use Rattle.rows.specs.declared.piece.Piece.{Piece}
use Rattle.rows.specs.declared.mending.Met.{Met}
use Rattle.rows.specs.Pieces.{loose_of, emit, Whole, Stands}

-- t frames of two joined pieces: one piece if they fit the limit, else two halves, the first rounded down
abbrev pub joining : ℕ → ℕ → Met
joining L t = cond (nat_le t L)
    (record { settled = None; last = loose_of t })
    (record { settled = Some (loose_of (t / 2)); last = loose_of (t - t / 2) })

-- a is the last of the list and p the next piece: they stay apart if neither is too short
abbrev pub meeting : ℕ → Piece → Piece → Met
meeting L a p = cond (nat_le (L / 2) a.len && nat_le (L / 2) p.len)
    (record { settled = Some a; last = p })
    (joining L (a.len + p.len))

-- the list from its last piece a on, once the pieces have been taken
abbrev pub mended_from : ℕ → Piece → List Piece → List Piece
mended_from L a [] = a ∷ []
mended_from L a (p ∷ ps) = emit (meeting L a p).settled (mended_from L (meeting L a p).last ps)

-- the mended list of the pieces
abbrev pub mended : ℕ → List Piece → List Piece
mended L [] = []
mended L (p ∷ ps) = mended_from L p ps

-- a block that is whole in the list qs stands at the same offset in ps
abbrev pub BlocksStay : List Piece → List Piece → Type 0
BlocksStay ps qs = (x : Piece) (o : ℕ) → Whole x → Stands x o qs → Stands x o ps
