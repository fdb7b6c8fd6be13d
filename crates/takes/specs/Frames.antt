-- What is read of the lines of a take, by the frame that a line is parsed as, if it is one's.
use Rattle.std.specs.Prelude.{ℕ, ◌+◌, List, [], ◌∷◌, ◌++◌, Some, None, Option}
use Rattle.std.specs.Option.{option_to_list}

module _ {K : Type 0} (parsed : List ℕ → Option K) where
  -- the frames, in the order of the lines
  abbrev pub frames_in : List (List ℕ) → List K
  frames_in [] = []
  frames_in (l ∷ ls) = option_to_list (parsed l) ++ frames_in ls

  -- a line's number where it is no frame
  abbrev pub told_of : ℕ → Option K → List ℕ
  told_of n None = n ∷ []
  told_of n (Some x) = []

  -- the numbers of the lines that are no frame, where n is the first line's
  abbrev pub unread_in : ℕ → List (List ℕ) → List ℕ
  unread_in n [] = []
  unread_in n (l ∷ ls) = told_of n (parsed l) ++ unread_in (n + 1) ls
