-- What a row of entries stands for in a store, and what reading it gives. Assumes nothing.
use Rattle.std.specs.Prelude.{◌≡◌, ℕ, ◌+◌, ◌-◌, ◌<◌, ◌≤◌, true, false, cond, List, [], ◌∷◌, ◌++◌, length, take, drop, Some, None, Ok, Err, Option, Result, nat_lt}
use Rattle.std.specs.List.{flat_map, AllByRecursion}
use Rattle.rows.specs.declared.entry.Entry.{Entry}
use Rattle.stores.specs.Meaning.{Meaning, block}
use Rattle.reading.specs.declared.fault.ReadFault.{ReadFault}
use Rattle.reading.specs.Faults.{Fails}

-- what stands at the place k of parts that have a size each: what `inside` gives at the place
-- within the part
abbrev pub located : {X : Type 0} → (X → ℕ) → (X → ℕ → Option ℕ) → List X → ℕ → Option ℕ
located size inside [] k = None
located size inside (x ∷ xs) k = cond (nat_lt k (size x)) (inside x k) (located size inside xs (k - size x))

-- the block that the frame at the place k of a row is of
abbrev pub block_at : List Entry → ℕ → Option ℕ
block_at es k = located (λ e. e.len) (λ e _. Some e.block) es k

module _ {F : Type 0} where
  -- the frames of a row: its blocks one after another
  abbrev pub frames : Meaning F → List Entry → List F
  frames m es = flat_map (λ e. block m e.block) es

  -- an entry has the length of its block, which is not empty
  abbrev pub Ties : Meaning F → Entry → Type 0
  Ties m e = (1 ≤ e.len) × (e.len ≡ length (block m e.block))

  -- and so has every entry of a row
  abbrev pub Tied : Meaning F → List Entry → Type 0
  Tied m es = AllByRecursion (Ties m) es

  -- every row that is tied to the one store is tied to the other, with the same frames
  abbrev pub RowsStay : Meaning F → Meaning F → Type 0
  RowsStay m m' = (es : List Entry) → Tied m es → Tied m' es × (frames m' es ≡ frames m es)

  -- The read of one block of the row failed, which has frames among those asked for: the frames
  -- before it are written, and the rest of the buffer is as it was. An ailing store fails at once.
  pub record Stops (m : Meaning F) (es : List Entry) (start : ℕ) (old : List F) (f : ReadFault) (new : List F) (m' : Meaning F) : Type 0 where
    pub before : List Entry
    pub entry : Entry
    pub behind : List Entry
    pub split : es ≡ before ++ entry ∷ behind
    pub some : 0 < length old
    pub low : length (frames m before) < start + length old
    pub high : start < length (frames m before) + entry.len
    pub at : f.at ≡ start + (length (frames m before) - start)
    pub written : new ≡ take (length (frames m before) - start) (drop start (frames m es)) ++ drop (length (frames m before) - start) old
    pub fails : Fails m entry.block f.fault m'
    pub first : m.ailing ≡ true → length (frames m before) ≤ start

  -- a read of the row from start on, by the buffer before and after
  abbrev pub RowReads : Meaning F → List Entry → ℕ → List F → {U : Type 0} → Result U ReadFault → List F → Meaning F → Type 0
  RowReads m es start old (Ok _) new m' =
      (new ≡ take (length old) (drop start (frames m es))) × (m' ≡ m) × (0 < length old → m.ailing ≡ false)
  RowReads m es start old (Err f) new m' = Stops m es start old f new m'
