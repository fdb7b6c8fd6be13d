-- A store that keeps the blocks of another keeps what stands on them: rows, stretches and their frames. Assumes nothing.
use Rattle.std.proofs.Common.{◌≡◌, ℕ, ◌-◌, ◌<◌, List, [], ◌∷◌, ◌++◌, length, take, drop, sym, refl, ap, ◌∙◌, arith}
use Rattle.pool.proofs.Each.{each_weaker}
use Rattle.rows.specs.declared.entry.Entry.{Entry}
use Rattle.stores.specs.Meaning.{Meaning, block}
use Rattle.reading.specs.declared.stretch.Stretch.{Stretch}
use Rattle.reading.specs.declared.stretch.Stretch.TheVariants.{Row, Given}
use Rattle.reading.specs.Rows.{frames, Ties, Tied, RowsStay}
use Rattle.reading.specs.Stretches.{stretch, sequence, Sound, AllSound}

module _ {F : Type 0} (m m' : Meaning F) (keeps : (n : ℕ) → 0 < length (block m n) → block m' n ≡ block m n) where
  block_stays : (e : Entry) → Ties m e → block m' e.block ≡ block m e.block
  block_stays e ties = keeps e.block (omega (arith, ties.0, ties.1))

  ties_stay : (e : Entry) → Ties m e → Ties m' e
  ties_stay e ties = (ties.0, ties.1 ∙ ap length (sym (block_stays e ties)))

  tied_stays : (es : List Entry) → Tied m es → Tied m' es
  tied_stays = each_weaker (Ties m) (Ties m') ties_stay

  frames_stay_lem : (es : List Entry) → Tied m es → frames m' es ≡ frames m es
  frames_stay_lem [] tied = refl
  frames_stay_lem (e ∷ es) tied = ap (λ z. z ++ frames m' es) (block_stays e tied.0) ∙ ap (λ z. block m e.block ++ z) (frames_stay_lem es tied.1)

  pub rows_stay : RowsStay m m'
  rows_stay es tied = (tied_stays es tied, frames_stay_lem es tied)

  stretch_stays : (s : Stretch F) → Sound m s → stretch m' s ≡ stretch m s
  stretch_stays (Row es span) sound = ap (λ z. take (span.end - span.start) (drop span.start z)) (frames_stay_lem es.now sound.0)
  stretch_stays (Given fs) sound = refl

  sound_stays : (s : Stretch F) → Sound m s → Sound m' s
  sound_stays (Row es span) sound = (tied_stays es.now sound.0, sound.1, omega (arith, sound.2, ap length (frames_stay_lem es.now sound.0)), sound.3)
  sound_stays (Given fs) sound = tt

  pub all_sound_stay : (ss : List (Stretch F)) → AllSound m ss → AllSound m' ss
  all_sound_stay = each_weaker (Sound m) (Sound m') sound_stays

  pub sequence_stays : (ss : List (Stretch F)) → AllSound m ss → sequence m' ss ≡ sequence m ss
  sequence_stays [] sound = refl
  sequence_stays (s ∷ ss) sound = ap (λ z. z ++ sequence m' ss) (stretch_stays s sound.0) ∙ ap (λ z. stretch m s ++ z) (sequence_stays ss sound.1)
