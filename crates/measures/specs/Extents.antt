-- The extent of frames: the smallest and the largest of their numbers, in 32 bits.
use Rattle.std.specs.Prelude.{◌^◌, ◌<◌, ℤ, pos, negsuc}
use Rattle.std.proofs.Common.{lit<}
use Rattle.std.specs.Int.Signed.{mag}
use Rattle.std.specs.Int.{int_max, int_min}
use Rattle.frames.specs.declared.frame.Frame as frame
use Rattle.frames.specs.Bounds.{mag_min, mag_max}
use Rattle.measures.specs.declared.extent.Extent.{Extent}

abbrev pub extent_from : (low high : ℤ) → mag low < 2 ^ 31 → mag high < 2 ^ 31 → Extent
extent_from low high f g = record { low = low; high = high; lows = f; highs = g }

-- the extent of no frame: the largest number and the smallest one
abbrev pub no_extent : Extent
no_extent = extent_from (pos 2147483647) (negsuc 2147483647) (lit< tt) (lit< tt)

-- the smaller low and the larger high
abbrev pub wider : Extent → Extent → Extent
wider x y =
    extent_from (int_min x.low y.low) (int_max x.high y.high)
    (mag_min (2 ^ 31) x.low y.low x.lows y.lows) (mag_max (2 ^ 31) x.high y.high x.highs y.highs)

-- the extent of one frame, by the smallest and the largest number of each of its kind
abbrev pub frame_extent : {K : Type 0} → frame.Ghosts K → K → Extent
frame_extent kind x = extent_from (kind.least x) (kind.greatest x) (kind.narrow x).0 (kind.narrow x).1
