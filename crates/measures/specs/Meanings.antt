-- What the three measures mean of a list of frames, in words of the list alone.
use Rattle.std.specs.Prelude.{◌≡◌, ℕ, ◌<◌, ◌≤◌, Bool, true, List, ◌∷◌, ◌++◌, length, ℤ, ◌≤ℤ◌}
use Rattle.std.specs.List.{AllByRecursion}
use Rattle.frames.specs.declared.frame.Frame as frame
use Rattle.measures.specs.declared.extent.Extent.{Extent}
use Rattle.measures.specs.Runs.{Run}

module _ {K : Type 0} where
  -- x is one of the frames
  abbrev pub Among : List K → K → Type 0
  Among frames x = (before : List K) × (after : List K) × (frames ≡ before ++ (x ∷ after))

  -- v stands in an order R to the number of every frame, and is the number of one of them
  abbrev pub Extreme : (ℤ → ℤ → Type 0) → (K → ℤ) → List K → ℤ → Type 0
  Extreme R number frames v = AllByRecursion (λ x. R v (number x)) frames × ((x : K) × Among frames x × (v ≡ number x))

  -- the low is at most every frame's low and is one of them, the high alike
  abbrev pub Reaches : frame.Ghosts K → List K → Extent → Type 0
  Reaches kind frames e =
      0 < length frames → Extreme (λ v z. v ≤ℤ z) kind.least frames e.low × Extreme (λ v z. z ≤ℤ v) kind.greatest frames e.high

  -- so many frames at the start, at the end, or anywhere in the list
  abbrev pub Begins : List K → List K → Type 0
  Begins frames part = (after : List K) × (frames ≡ part ++ after)

  abbrev pub Ends : List K → List K → Type 0
  Ends frames part = (before : List K) × (frames ≡ before ++ part)

  abbrev pub Stands : List K → List K → Type 0
  Stands frames part = (before : List K) × (after : List K) × (frames ≡ before ++ (part ++ after))

  module _ (clips : K → Bool) where
    -- n is the length of the longest such stretch of frames that are all clipped: there is one, and none is longer
    abbrev pub Longest : (List K → Type 0) → ℕ → Type 0
    Longest Lies n =
        ((part : List K) × Lies part × AllByRecursion (λ x. clips x ≡ true) part × (length part ≡ n))
        × ((part : List K) → Lies part → AllByRecursion (λ x. clips x ≡ true) part → length part ≤ n)

    -- what the four numbers of a clip run tell
    pub record Tells (frames : List K) (run : Run) : Type 0 where
      pub count : run.count ≡ length frames
      pub head : Longest (Begins frames) run.head
      pub tail : Longest (Ends frames) run.tail
      pub best : Longest (Stands frames) run.best
