-- What a buffer holds after a list was to be written at its front.
use Rattle.std.specs.Prelude.{◌≡◌, ℕ, ◌<◌, ◌≤◌, List, ◌++◌, length, drop, Ok, Err, Result}

-- the buffer `was` has become `is`: xs at its front and the rest as it was, or unchanged where xs is too long
abbrev pub Written : {U E : Type 0} → List ℕ → List ℕ → List ℕ → Result U E → Type 0
Written xs was is (Ok _) = (length xs ≤ length was) × (is ≡ xs ++ drop (length xs) was)
Written xs was is (Err _) = (length was < length xs) × (is ≡ was)
