-- What a walk over joined stretches gathers, and where it breaks off. Assumes nothing.
use Rattle.std.proofs.Common.{◌≡◌, ℕ, ◌+◌, ◌-◌, ◌<◌, ◌≤◌, List, length, take, drop, sum_by, ap, ◌∙◌, arith}
use Rattle.std.proofs.lemmas.List.{length-take}
use Rattle.stores.specs.Meaning.{Meaning}
use Rattle.reading.specs.declared.fault.ReadFault.{ReadFault}
use Rattle.reading.specs.declared.part.Part as part
use Rattle.reading.specs.declared.stretch.Stretch.{Stretch}
use Rattle.reading.specs.Stretches.{extent, stretch, sequence, Sound, AllSound, origin, source, Misses}
use Rattle.reading.specs.Walks.{Breaks}
use Rattle.reading.proofs.Places.{located_in, length-joined, all_around}
use Rattle.reading.specs.StretchesLemmas.{stretch_length}

module _ {F : Type 0} where
  -- stretches as parts
  abbrev pub stretches : {S : Type 0} → part.Ghosts (Stretch F) S F
  stretches = record {
    size = extent;
    frames = stretch;
    tied = Sound;
    serves = λ m. Unit {0};
    fails = λ m s skip old f new m'. Misses m (origin s) skip (length old) f m';
  }

  -- a read that fails within a stretch fails within the frames that are gathered
  pub misses : {S : Type 0} {m m' : Meaning F} {ss : List (Stretch F)} {at : ℕ} {old : List F} {f : ReadFault} {new : List F} → AllSound m ss → Breaks (stretches {S = S}) m ss at old f new m' → Misses m (source ss) at (length old) f.fault m'
  misses {S} {m} {m'} {ss} {at} {old} {f} {new} sound b =
      let a = b.fails.1 in
      let s = b.part in
      let before = sum_by extent b.before in
      let long : length (sequence m b.before) ≡ before = length-joined extent (stretch m) (Sound m) (stretch_length m) b.before (all_around (Sound m) ss b.before s b.behind b.split sound).0 in
      let asked : length (take b.count (drop b.done old)) ≤ b.count = omega (arith, length-take b.count (drop b.done old)) in
      let k = before + a.0 in
      let inside : k - before ≡ a.0 = omega arith in
      let last : a.0 < at - before + b.count = omega (arith, a.2, long, asked) in
      (b.fails.0, (k, omega (arith, a.1, long), omega (arith, last, b.least, b.placed, b.low, b.some, long), ap (λ z. source z k) b.split ∙ located_in extent origin b.before s b.behind k (omega arith) (omega (arith, last, b.least, b.high, long)) ∙ ap (origin s) inside ∙ a.3), b.fails.2)
