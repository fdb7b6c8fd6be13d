-- What stereo frames mean: the left sample and then the right one.
use Rattle.std.specs.Prelude.{ℕ, ◌+◌, ◌^◌, ◌<◌, Bool, ◌||◌, List, ◌++◌, take, drop, ℤ, Option}
use Rattle.std.specs.Int.Signed.{mag}
use Rattle.std.specs.Int.{int_max, int_min}
use Rattle.std.specs.Option.{option_and_then, option_map}
use Rattle.frames.specs.Bounds.{mag_min, mag_max}
use Rattle.frames.specs.Samples.{square, at_end}
use Rattle.frames.specs.Monos.{mono_bytes, mono_from, mono_line, mono_parsed, mono_narrow}
use Rattle.frames.specs.declared.mono.Mono.{Mono}
use Rattle.frames.specs.declared.stereo.Stereo.{Stereo}

abbrev pub stereo_of : Mono → Mono → Stereo
stereo_of l r = record { left = l; right = r }

-- a frame of two samples, where there are both
abbrev pub both : Option Mono → Option Mono → Option Stereo
both l r = option_and_then (λ x. option_map (stereo_of x) r) l

abbrev pub stereo_bytes : Stereo → List ℕ
stereo_bytes x = mono_bytes x.left ++ mono_bytes x.right

abbrev pub stereo_from : List ℕ → Stereo
stereo_from bs = stereo_of (mono_from (take 2 bs)) (mono_from (drop 2 bs))

abbrev pub stereo_line : Stereo → List ℕ
stereo_line x = mono_line x.left ++ mono_line x.right

-- four digits and four digits more are a frame's line
abbrev pub stereo_parsed : List ℕ → Option Stereo
stereo_parsed text = both (mono_parsed (take 4 text)) (mono_parsed (drop 4 text))

abbrev pub stereo_least : Stereo → ℤ
stereo_least x = int_min x.left.value x.right.value

abbrev pub stereo_greatest : Stereo → ℤ
stereo_greatest x = int_max x.left.value x.right.value

pub stereo_narrow : (x : Stereo) → (mag (stereo_least x) < 2 ^ 31) × (mag (stereo_greatest x) < 2 ^ 31)
stereo_narrow x =
    let l = mono_narrow x.left in
    let r = mono_narrow x.right in
    (mag_min (2 ^ 31) x.left.value x.right.value l r, mag_max (2 ^ 31) x.left.value x.right.value l r)

abbrev pub stereo_power : Stereo → ℕ
stereo_power x = square x.left.value + square x.right.value

abbrev pub stereo_clips : Stereo → Bool
stereo_clips x = at_end (2 ^ 15) x.left.value || at_end (2 ^ 15) x.right.value
