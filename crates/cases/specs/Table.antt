-- The worked cases: what is given, and what the definitions make of it.
use Rattle.std.specs.Prelude.{◌≡◌, ℕ, ◌^◌, List, [], ◌∷◌, map, ℤ, pos, negsuc, codes}
use Rattle.frames.specs.Twos.{unsigned}
use Rattle.frames.specs.Samples.{square, at_end}
use Rattle.frames.specs.Monos.{mono_of_bits, mono_bytes, mono_line}
use Rattle.frames.specs.declared.mono.Mono.{Mono}
use Rattle.frames.specs.contracts.mono.frame.MonoFrame.TheImpl as mono_frame
use Rattle.rows.specs.declared.piece.Piece.{Piece}
use Rattle.rows.specs.Pieces.{loose_of, whole_of, count_of_new}
use Rattle.rows.specs.Mending.{mended}
use Rattle.slot_stores.specs.Image.{written}
use Rattle.measures.specs.Measured.{measured}
use Rattle.measures.specs.Extents.{frame_extent, no_extent, wider}
use Rattle.measures.specs.Energies.{capped_energy, added}
use Rattle.measures.specs.ClipRuns.{frame_run, no_run, bridged}

pub data Case : Type 0 where
  -- a mono frame, its bytes and its line
  a_frame : (value : ℤ) (bytes line : List ℕ) → Case
  -- mono frames, and their lowest and highest number, energy and longest clipped run
  some_frames : (values : List ℤ) (low high : ℤ) (energy best : ℕ) → Case
  -- mono frames, and the bytes that their block is written as in an image
  a_slot : (values : List ℤ) (bytes : List ℕ) → Case
  -- pieces, what they are mended to with the block limit 8, and how many of that are new
  some_pieces : (pieces given : List Piece) (new : ℕ) → Case

abbrev mono : ℤ → Mono
mono z = mono_of_bits (unsigned (2 ^ 15) z)

abbrev pub Right : Case → Type 0
Right (a_frame value bytes line) = (mono_bytes (mono value) ≡ bytes) × (mono_line (mono value) ≡ line)
Right (some_frames values low high energy best) =
    let frames = map mono values in
    let extent = measured (frame_extent mono_frame.ghosts) wider no_extent frames in
    (extent.low ≡ low)
    × (extent.high ≡ high)
    × ((measured (λ x. capped_energy (square x.value)) added (capped_energy 0) frames).sum ≡ energy)
    × ((measured (λ x. frame_run (at_end (2 ^ 15) x.value)) bridged no_run frames).best ≡ best)
Right (a_slot values bytes) = written mono_bytes (map mono values) ≡ bytes
Right (some_pieces pieces given new) = (mended 8 pieces ≡ given) × (count_of_new given ≡ new)

abbrev pub table : List Case
table =
    a_frame (negsuc 1) (0xFE ∷ 0xFF ∷ []) (codes "FFFE")
    ∷ some_frames (pos 3 ∷ negsuc 4 ∷ pos 32767 ∷ negsuc 32767 ∷ pos 32767 ∷ []) (negsuc 32767) (pos 32767) 3221094436 3
    ∷ a_slot (pos 513 ∷ []) (0x01 ∷ 0x00 ∷ 0x00 ∷ 0x00 ∷ 0x04 ∷ 0x0A ∷ 0x01 ∷ 0x02 ∷ [])
    ∷ some_pieces [] [] 0
    ∷ some_pieces (whole_of 0 3 ∷ []) (whole_of 0 3 ∷ []) 0
    ∷ some_pieces (whole_of 0 4 ∷ whole_of 1 4 ∷ []) (whole_of 0 4 ∷ whole_of 1 4 ∷ []) 0
    ∷ some_pieces (whole_of 0 3 ∷ whole_of 1 5 ∷ []) (loose_of 8 ∷ []) 1
    ∷ some_pieces (whole_of 0 3 ∷ whole_of 1 6 ∷ []) (loose_of 4 ∷ loose_of 5 ∷ []) 2
    ∷ some_pieces (whole_of 0 3 ∷ whole_of 1 8 ∷ []) (loose_of 5 ∷ loose_of 6 ∷ []) 2
    ∷ some_pieces (loose_of 1 ∷ loose_of 2 ∷ loose_of 1 ∷ []) (loose_of 4 ∷ []) 1
    ∷ some_pieces (whole_of 0 8 ∷ loose_of 1 ∷ whole_of 1 6 ∷ []) (loose_of 4 ∷ loose_of 5 ∷ whole_of 1 6 ∷ []) 2
    ∷ some_pieces (whole_of 0 8 ∷ loose_of 1 ∷ loose_of 8 ∷ loose_of 7 ∷ []) (loose_of 4 ∷ loose_of 5 ∷ loose_of 8 ∷ loose_of 7 ∷ []) 4
    ∷ []
