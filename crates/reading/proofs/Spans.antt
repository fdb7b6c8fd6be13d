-- A part of a stretch, as a part of its row. Assumes nothing.
use Rattle.std.proofs.Common.{◌≡◌, ℕ, ◌+◌, ◌-◌, ◌^◌, ◌<◌, ◌≤◌, List, length, take, drop, sym, ap, ◌∙◌, subst, arith, Bor}
use Rattle.std.proofs.lemmas.List.{drop-take, drop-drop, take-take}
use Rattle.std.specs.declared.ops.Range.{Range}
use Rattle.rows.specs.declared.entry.Entry.{Entry}
use Rattle.stores.specs.Meaning.{Meaning}
use Rattle.reading.specs.declared.stretch.Stretch.{Stretch}
use Rattle.reading.specs.declared.stretch.Stretch.TheVariants.{Row}
use Rattle.reading.specs.Rows.{frames, Tied, block_at}
use Rattle.reading.specs.Stretches.{extent, stretch, Sound, Among, origin}

module _ {F : Type 0} where
  -- a part of a part
  take_part : (xs : List F) (from len skip n : ℕ) → skip + n ≤ len → take n (drop (from + skip) xs) ≡ take n (drop skip (take len (drop from xs)))
  take_part xs from len skip n h =
      let cut : len ≡ skip + (len - skip) = omega arith in
      sym (ap (λ k. take n (drop skip (take k (drop from xs)))) cut ∙ ap (take n) (drop-take skip (len - skip) (drop from xs)) ∙ take-take n (len - skip) (drop skip (drop from xs)) (omega arith) ∙ ap (take n) (drop-drop skip from xs))

  -- what n frames of a stretch from skip on are in its row
  pub record Within (m : Meaning F) (s : Stretch F) (es : List Entry) (from skip n : ℕ) : Type 0 where
    pub tied : Tied m es
    pub long : from + skip + n ≤ length (frames m es)
    pub small : from + skip + n < 2 ^ 64
    pub same : (start : ℕ) → start ≡ from + skip → take n (drop start (frames m es)) ≡ take n (drop skip (stretch m s))
    pub among : (start b : ℕ) → start ≡ from + skip → Among (block_at es) start n b → Among (origin s) skip n b

  pub within : (m : Meaning F) (s : Stretch F) (es : Bor (List Entry)) (span : Range ℕ) (skip n : ℕ) → s ≡ Row es span → Sound m s → skip + n ≤ extent s → Within m s es.now span.start skip n
  within m s es span skip n is sound h =
      let from = span.start in
      let P : Stretch F → Type 0 = λ z. Sound m z → skip + n ≤ extent z → Within m z es.now from skip n in
      let at : P (Row es span) = λ sound h. record {
        tied = sound.0;
        long = omega (arith, sound.1, sound.2);
        small = omega (arith, sound.1, sound.3);
        same = λ start b. ap (λ z. take n (drop z (frames m es.now))) b ∙ take_part (frames m es.now) from (span.end - from) skip n h;
        among = λ start b e a. (a.0 - from, omega (arith, a.1), omega (arith, a.1, a.2), ap (block_at es.now) (omega (arith, a.1)) ∙ a.3);
      } in
      subst P (sym is) at sound h
