-- What follows of stretches from their words. Assumes nothing.
use Rattle.std.specs.Prelude.{◌≡◌, ◌-◌, length, drop, refl}
use Rattle.std.proofs.Common.{arith, length-drop}
use Rattle.std.proofs.lemmas.List.{length-take-le}
use Rattle.stores.specs.Meaning.{Meaning}
use Rattle.reading.specs.declared.stretch.Stretch.{Stretch}
use Rattle.reading.specs.declared.stretch.Stretch.TheVariants.{Row, Given}
use Rattle.reading.specs.Rows.{frames}
use Rattle.reading.specs.Stretches.{extent, stretch, Sound}

module _ {F : Type 0} where
  -- a sound stretch has as many frames as its extent
  pub stretch_length : (m : Meaning F) (s : Stretch F) → Sound m s → length (stretch m s) ≡ extent s
  stretch_length m (Row entries span) sound = length-take-le (span.end - span.start) (drop span.start (frames m entries.now)) (omega (arith, sound.1, sound.2, length-drop span.start (frames m entries.now)))
  stretch_length m (Given fs) sound = refl
