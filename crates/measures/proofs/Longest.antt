-- The four numbers of a clip run are the lengths that they are said to be. Assumes nothing.
use Rattle.std.proofs.Common.{◌≡◌, ℕ, ◌+◌, ◌^◌, ◌≤◌, max, Bool, true, false, cond, eqb, List, [], ◌∷◌, ◌++◌, length, sym, refl, ap, ◌∙◌, subst, ⊎_elim, arith, length-append}
use Rattle.std.specs.List.{AllByRecursion}
use Rattle.std.proofs.lemmas.Bool.{cond-true, cond_both, cases_lt, eq-eqb, eqb-true}
use Rattle.measures.specs.Measured.{measured}
use Rattle.measures.specs.Runs.{Run, after, of_frame}
use Rattle.measures.specs.ClipRuns.{run_of, frame_run, no_run, bridged}
use Rattle.measures.specs.Meanings.{Begins, Ends, Stands, Tells}
use Rattle.measures.specs.Bridges.{capped_in}

module _ {K : Type 0} where
  -- a part of a list is one of a longer list
  begins_on : (x : K) (xs part : List K) → Begins xs part → Begins (x ∷ xs) (x ∷ part)
  begins_on x xs part (after, e) = (after, ap (λ ys. x ∷ ys) e)

  ends_on : (x : K) (xs part : List K) → Ends xs part → Ends (x ∷ xs) part
  ends_on x xs part (before, e) = (x ∷ before, ap (λ ys. x ∷ ys) e)

  stands_on : (x : K) (xs part : List K) → Stands xs part → Stands (x ∷ xs) part
  stands_on x xs part (before, after, e) = (x ∷ before, after, ap (λ ys. x ∷ ys) e)

  ends_short : (xs part : List K) → Ends xs part → length part ≤ length xs
  ends_short xs part (before, e) = omega (arith, ap length e, length-append before part)

  stands_short : (xs part : List K) → Stands xs part → length part ≤ length xs
  stands_short xs part (before, after, e) = omega (arith, ap length e, length-append before (part ++ after), length-append part after)

  ends_whole : (xs part : List K) → Ends xs part → length xs ≤ length part → part ≡ xs
  ends_whole xs part ([], e) long = sym e
  ends_whole xs part (y ∷ before, e) long = absurd (omega (arith, ap length e, length-append (y ∷ before) part))

module _ {K : Type 0} (clips : K → Bool) where
  abbrev Clipped : List K → Type 0
  Clipped part = AllByRecursion (λ y. clips y ≡ true) part

  never : (x : K) → clips x ≡ true → clips x ≡ false → ⊥
  never x t f = let z : true ≡ false = sym t ∙ f in absurd (let n : ◌≡◌ {A = ℕ} 0 1 = cc in omega arith)

  module _ (x : K) (xs : List K) (r : Run) (told : Tells clips xs r) where
    -- the tail after one frame more at the front, which adds to a tail that is the whole list
    abbrev tail_with : ℕ → ℕ
    tail_with more = cond (eqb r.tail r.count) (r.count + more) r.tail

    abbrev Found : (List K → Type 0) → ℕ → Type 0
    Found Lies n = (part : List K) × Lies part × Clipped part × (length part ≡ n)

    tail_short : r.tail ≤ r.count
    tail_short = let found = told.tail.0 in omega (arith, found.3, ends_short xs found.0 found.1, told.count)

    tail_grows : (more : ℕ) → r.tail ≤ tail_with more
    tail_grows more = cond_both (eqb r.tail r.count) (r.count + more) r.tail (λ n. r.tail ≤ n) (λ _. omega (arith, tail_short)) (λ _. omega arith)

    head_within : r.head ≤ r.best
    head_within =
        let found = told.head.0 in
        omega (arith, found.3, told.best.1 found.0 ([], found.1.0, found.1.1) found.2)

    tail_found : Found (Ends (x ∷ xs)) r.tail
    tail_found = let found = told.tail.0 in (found.0, ends_on x xs found.0 found.1, found.2, found.3)

    best_found : Found (Stands (x ∷ xs)) r.best
    best_found = let found = told.best.0 in (found.0, stands_on x xs found.0 found.1, found.2, found.3)

    -- a stretch of the longer list begins it, or is one of the shorter list
    best_most : (head best : ℕ) → ((part : List K) → Begins (x ∷ xs) part → Clipped part → length part ≤ head) → head ≤ best → r.best ≤ best → (part : List K) → Stands (x ∷ xs) part → Clipped part → length part ≤ best
    best_most head best begins h b part ([], after, e) all = omega (arith, begins part (after, e) all)
    best_most head best begins h b part (y ∷ before, after, e) all = omega (arith, told.best.1 part (before, after, cc) all)

    -- a frame that is clipped goes on with the head
    module _ (clipped : clips x ≡ true) where
      begins_most : (part : List K) → Begins (x ∷ xs) part → Clipped part → length part ≤ 1 + r.head
      begins_most [] lies all = omega arith
      begins_most (y ∷ part) (after, e) all = omega (arith, told.head.1 part (after, cc) all.1)

      begins_found : Found (Begins (x ∷ xs)) (1 + r.head)
      begins_found = let found = told.head.0 in (x ∷ found.0, begins_on x xs found.0 found.1, (clipped, found.2), omega (arith, found.3))

      ends_found : Found (Ends (x ∷ xs)) (tail_with 1)
      ends_found =
          cond_both (eqb r.tail r.count) (r.count + 1) r.tail (Found (Ends (x ∷ xs)))
          (λ e.
          let found = told.tail.0 in
          let same : found.0 ≡ xs = ends_whole xs found.0 found.1 (omega (arith, eqb-true r.tail r.count e, found.3, told.count)) in
          (x ∷ xs, ([], refl), (clipped, subst Clipped same found.2), omega (arith, told.count)))
          (λ _. tail_found)

      ends_most : (part : List K) → Ends (x ∷ xs) part → Clipped part → length part ≤ tail_with 1
      ends_most part ([], e) all =
          let clear : Clipped (x ∷ xs) = subst Clipped (sym e) all in
          let full : r.tail ≡ r.count = omega (arith, told.tail.1 xs ([], refl) clear.1, tail_short, told.count) in
          rw (cond-true _ _ _ (eq-eqb r.tail r.count full)) (omega (arith, ap length e, told.count))
      ends_most part (y ∷ before, e) all = omega (arith, told.tail.1 part (before, cc) all, tail_grows 1)

      stands_found : Found (Stands (x ∷ xs)) (max (max 1 r.best) (1 + r.head))
      stands_found =
          ⊎_elim
          (λ more.
          let front = begins_found in
          (front.0, ([], front.1.0, front.1.1), front.2, omega (arith, front.3)))
          (λ less.
          let part = best_found in
          (part.0, part.1, part.2, omega (arith, part.3)))
          (cases_lt r.best (1 + r.head))

      clipped_more : Tells clips (x ∷ xs) (after (of_frame true) r)
      clipped_more = record {
        count = omega (arith, told.count);
        head = (begins_found, begins_most);
        tail = (ends_found, ends_most);
        best = (stands_found, best_most (1 + r.head) (max (max 1 r.best) (1 + r.head)) begins_most (omega arith) (omega arith));
      }

    -- a frame that is not begins no run
    module _ (clear : clips x ≡ false) where
      none_begins : (part : List K) → Begins (x ∷ xs) part → Clipped part → length part ≤ 0
      none_begins [] lies all = omega arith
      none_begins (y ∷ part) (after, e) all = let same : y ≡ x = cc in absurd (never x (subst (λ z. clips z ≡ true) same all.0) clear)

      whole_or_less : Found (Ends (x ∷ xs)) (tail_with 0)
      whole_or_less =
          cond_both (eqb r.tail r.count) (r.count + 0) r.tail (Found (Ends (x ∷ xs)))
          (λ e. let part = tail_found in (part.0, part.1, part.2, omega (arith, part.3, eqb-true r.tail r.count e)))
          (λ _. tail_found)

      none_ends : (part : List K) → Ends (x ∷ xs) part → Clipped part → length part ≤ tail_with 0
      none_ends part ([], e) all = let bad : Clipped (x ∷ xs) = subst Clipped (sym e) all in absurd (never x bad.0 clear)
      none_ends part (y ∷ before, e) all = omega (arith, told.tail.1 part (before, cc) all, tail_grows 0)

      clear_more : Tells clips (x ∷ xs) (after (of_frame false) r)
      clear_more =
          let within = head_within in
          let part = best_found in
          record {
            count = omega (arith, told.count);
            head = (([], (x ∷ xs, refl), tt, refl), none_begins);
            tail = (whole_or_less, none_ends);
            best = ((part.0, part.1, part.2, omega (arith, part.3)), best_most 0 (max (max 0 r.best) (0 + r.head)) none_begins (omega arith) (omega arith));
          }

    frame_more : (b : Bool) → clips x ≡ b → Tells clips (x ∷ xs) (after (of_frame b) r)
    frame_more true e = clipped_more e
    frame_more false e = clear_more e

  -- the run of a list that is short enough to be counted
  pub run_tells : (xs : List K) → length xs ≤ 2 ^ 30 → Tells clips xs (run_of (measured (λ x. frame_run (clips x)) bridged no_run xs))
  run_tells [] short = record {
    count = refl;
    head = (([], ([], refl), tt, refl), λ part lies all. stands_short [] part ([], lies.0, lies.1));
    tail = (([], ([], refl), tt, refl), λ part lies all. ends_short [] part lies);
    best = (([], ([], [], refl), tt, refl), λ part lies all. stands_short [] part lies);
  }
  run_tells (x ∷ xs) short =
      let rest = run_tells xs (omega arith) in
      let r = run_of (measured (λ y. frame_run (clips y)) bridged no_run xs) in
      subst (Tells clips (x ∷ xs)) (sym (capped_in (after (of_frame (clips x)) r) (omega (arith, rest.count)))) (frame_more x xs r rest (clips x) refl)
