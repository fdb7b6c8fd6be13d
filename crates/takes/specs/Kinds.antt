-- The kind of frame that the lines of a take tell.
use Rattle.std.specs.Prelude.{ℕ, cond, List, [], ◌∷◌, length, Some, None, Option, ◌==◌, codes}
use Rattle.takes.specs.declared.kind.Kind.{Kind}
use Rattle.takes.specs.declared.kind.Kind.TheVariants.{Mono, Stereo}

-- the first line of four digits or of eight tells it
abbrev pub told_by : List (List ℕ) → Option Kind
told_by [] = None
told_by (l ∷ ls) = cond (length l == 4) (Some Mono) (cond (length l == 8) (Some Stereo) (told_by ls))

-- what a kind is printed as
abbrev pub name : Kind → List ℕ
name Mono = codes "mono"
name Stereo = codes "stereo"
