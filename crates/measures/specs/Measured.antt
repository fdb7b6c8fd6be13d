-- The measure of a list of frames, by a value of each frame, a joining and a neutral value.
use Rattle.std.specs.Prelude.{◌≡◌, List, [], ◌∷◌, ◌++◌}

-- the values of the frames, joined in order
abbrev pub measured : {K V : Type 0} → (K → V) → (V → V → V) → V → List K → V
measured worth join neutral [] = neutral
measured worth join neutral (x ∷ xs) = join (worth x) (measured worth join neutral xs)

-- wherever the frames are cut in two, v is the joining of the measures of the two parts
abbrev pub PartsJoined : {K V : Type 0} → (K → V) → (V → V → V) → V → List K → V → Type 0
PartsJoined {K} worth join neutral frames v =
    (front back : List K) → frames ≡ front ++ back → v ≡ join (measured worth join neutral front) (measured worth join neutral back)

-- the joining is associative, and the neutral value changes nothing
pub record Laws {V : Type 0} (join : V → V → V) (neutral : V) : Type 0 where
  pub left : (x : V) → join neutral x ≡ x
  pub right : (x : V) → join x neutral ≡ x
  pub assoc : (x y z : V) → join (join x y) z ≡ join x (join y z)
