-- The measures that are kept of blocks, by the measures of a frame.
use Rattle.std.specs.Prelude.{◌≡◌, ℕ, ◌<◌, List, length, Ok, Err, Result, slice_index_or, slice_set}
use Rattle.frames.specs.declared.frame.Frame as frame
use Rattle.measures.specs.Measured.{measured}
use Rattle.measures.specs.Summaries.{no_summary, joined_summary, frame_summary}
use Rattle.measures.specs.declared.summary.Summary.{Summary}
use Rattle.stores.specs.Meaning.{Meaning, capacity, block}
use Rattle.pool.specs.declared.pool.Pool.{Pool}
use Rattle.pool.specs.Accounts.{kept_of}

module _ {F : Type 0} (worth : F → Summary) where
  -- the measures of a list of frames
  abbrev pub summed : List F → Summary
  summed frames = measured worth joined_summary no_summary frames

  -- there is one for each number, and where a number holds a block it is the measures of that block's frames
  pub record Kept (m : Meaning F) (kept : List Summary) : Type 0 where
    pub each : length kept ≡ capacity m
    pub right : (n : ℕ) → 0 < length (block m n) → slice_index_or kept n no_summary ≡ summed (block m n)

  -- what is kept after a put
  abbrev pub kept_after : {E : Type 0} → List Summary → List F → Result ℕ E → List Summary
  kept_after kept frames (Ok n) = slice_set kept n (summed frames)
  kept_after kept frames (Err _) = kept

module _ {S F : Type 0} (kind : frame.Ghosts F) (meaning : S → Meaning F) where
  -- what a pool keeps is right, by its store's meaning and the measures of a frame of that kind
  abbrev pub KeptRight : Pool S → Type 0
  KeptRight pool = Kept (frame_summary kind) (meaning pool.store) (kept_of pool)

  -- where what a pool keeps was right before, it is right after
  abbrev pub KeepsRight : Pool S → Pool S → Type 0
  KeepsRight old new = KeptRight old → KeptRight new
