-- What a walk over the parts of a sequence fills, and where it breaks off. Assumes nothing.
use Rattle.std.specs.Prelude.{◌≡◌, ℕ, ◌+◌, ◌-◌, ◌^◌, ◌<◌, min, List, ◌∷◌, ◌++◌, length, take, drop, Ok, Err, Result}
use Rattle.std.specs.List.{flat_map, AllByRecursion}
use Rattle.stores.specs.Meaning.{Meaning}
use Rattle.reading.specs.declared.fault.ReadFault.{ReadFault}
use Rattle.reading.specs.declared.part.Part as part

module _ {X S F : Type 0} (p : part.Ghosts X S F) where
  -- every part is tied to the store
  abbrev pub AllTied : Meaning F → List X → Type 0
  AllTied m xs = AllByRecursion (p.tied m) xs

  -- the frames of the parts, one after another
  abbrev pub joined : Meaning F → List X → List F
  joined m xs = flat_map (p.frames m) xs

  -- The fill of one part failed, which has frames among those asked for: the frames before it are
  -- written, and what lies behind it in the buffer is as it was.
  pub record Breaks (m : Meaning F) (xs : List X) (start : ℕ) (old : List F) (f : ReadFault) (new : List F) (m' : Meaning F) : Type 0 where
    pub before : List X
    pub part : X
    pub behind : List X
    pub split : xs ≡ before ++ part ∷ behind
    pub some : 0 < length old
    pub low : length (joined m before) < start + length old
    pub high : start < length (joined m before) + p.size part
    pub done : ℕ
    pub placed : done ≡ length (joined m before) - start
    pub at : f.at ≡ min (start + done) (2 ^ 64 - 1)
    pub count : ℕ
    pub least : count ≡ min (length old - done) (p.size part - (start - length (joined m before)))
    pub left : List F
    pub fails : p.fails m part (start - length (joined m before)) (take count (drop done old)) f.fault left m'
    pub written : new ≡ take done (drop start (joined m xs)) ++ (left ++ drop (done + count) old)
    pub serves : 0 < done → p.serves m

  -- a buffer is filled from the joined parts, from `start` on
  abbrev pub Walks : Meaning F → List X → ℕ → List F → {U : Type 0} → Result U ReadFault → List F → Meaning F → Type 0
  Walks m xs start old (Ok _) new m' =
      (new ≡ take (length old) (drop start (joined m xs))) × (m' ≡ m) × (0 < length old → p.serves m)
  Walks m xs start old (Err f) new m' = Breaks m xs start old f new m'
