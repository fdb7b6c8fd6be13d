-- What a walk over a row's entries reads, and where it breaks off. Assumes nothing.
use Rattle.std.proofs.Common.{◌≡◌, ℕ, ◌+◌, ◌-◌, ◌^◌, ◌<◌, false, List, ◌++◌, length, take, drop, Ok, Err, Result, rules, sym, ap, ◌∙◌, arith, take-append-drop}
use Rattle.std.proofs.lemmas.List.{drop-drop}
use Rattle.rows.specs.declared.entry.Entry.{Entry}
use Rattle.stores.specs.Meaning.{Meaning, block}
use Rattle.reading.specs.declared.fault.ReadFault.{ReadFault}
use Rattle.reading.specs.declared.part.Part as part
use Rattle.reading.specs.Faults.{Fails}
use Rattle.reading.specs.Rows.{block_at, frames, Ties, Tied, Stops, RowReads}
use Rattle.reading.specs.Stretches.{Among}
use Rattle.reading.specs.Walks.{Breaks, Walks}
use Rattle.reading.proofs.Places.{located_in, length-joined, all_around}

module _ {F : Type 0} where
  -- entries as parts
  abbrev pub entries : {S : Type 0} → part.Ghosts Entry S F
  entries = record {
    size = λ e. e.len;
    frames = λ m e. block m e.block;
    tied = Ties;
    serves = λ m. m.ailing ≡ false;
    fails = λ m e skip old f new m'. Fails m e.block f m' × (new ≡ old);
  }

  module _ (S : Type 0) (m m' : Meaning F) (es : List Entry) (start : ℕ) (old new : List F) (small : start + length old < 2 ^ 64) where
    pub stops : (f : ReadFault) → Breaks (entries {S = S}) m es start old f new m' → Stops m es start old f new m'
    stops f b = record {
      before = b.before;
      entry = b.part;
      behind = b.behind;
      split = b.split;
      some = b.some;
      low = b.low;
      high = b.high;
      at = omega (arith, b.at, b.placed, b.low, b.some);
      written = b.written ∙ ap (λ z. take b.done (drop start (frames m es)) ++ z) (ap (λ z. z ++ drop (b.done + b.count) old) b.fails.1 ∙ ap (λ z. take b.count (drop b.done old) ++ z) (sym (drop-drop b.count b.done old)) ∙ take-append-drop b.count (drop b.done old)) ∙ ap (λ z. take z (drop start (frames m es)) ++ drop z old) b.placed;
      fails = b.fails.0;
      first = λ a. let serves = b.serves in let placed = b.placed in search (rules, arith);
    }

    -- what a walk over the entries gives is what a read of the row does
    pub row_reads : {U : Type 0} (r : Result U ReadFault) → Walks (entries {S = S}) m es start old r new m' → RowReads m es start old r new m'
    row_reads (Ok _) w = w
    row_reads (Err f) w = stops f w

  -- the block whose read failed has the first frame that was not delivered
  pub stops_among : {m m' : Meaning F} {es : List Entry} {start : ℕ} {old : List F} {f : ReadFault} {new : List F} → Tied m es → (s : Stops m es start old f new m') → Among (block_at es) start (length old) s.entry.block
  stops_among {m} {m'} {es} {start} {old} {f} {new} tied s =
      let around = all_around (Ties m) es s.before s.entry s.behind s.split tied in
      let long = length-joined (λ e. e.len) (λ e. block m e.block) (Ties m) (λ e t. sym t.1) s.before around.0 in
      let k = start + (length (frames m s.before) - start) in
      (k, omega arith, omega (arith, s.some, s.low), ap (λ z. block_at z k) s.split ∙ located_in (λ e. e.len) (λ e _. _) s.before s.entry s.behind k (omega arith) (omega (arith, s.high, around.1.1, long)))
