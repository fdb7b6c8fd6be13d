-- A walk over the parts f x of a list xs, that copies into a buffer what lies from start on. Assumes nothing.
use Rattle.std.proofs.Common.{◌≡◌, ℕ, ◌+◌, ◌-◌, ◌<◌, ◌≤◌, min, List, [], ◌∷◌, ◌++◌, length, get_or, take, drop, rules, sym, refl, ap, ◌∙◌, subst, ⊎_elim, arith, length-append, length-drop}
use lib.Seq.{take-append-add, drop-append-add}
use borrow.Rule.Slice.PartMut.{put_mid}
use Rattle.std.specs.List.{flat_map}
use Rattle.std.proofs.lemmas.Bool.{cases_lt}
use Rattle.std.proofs.lemmas.Slice.{take-put_mid, drop-put_mid}
use Rattle.std.proofs.lemmas.List.{take_more, at_drop_more, flat_map_more, append-nil, append_assoc, take_all, take_at, take-take, take-append-le, drop-drop, drop-append-le, length-take-le}

module _ {A : Type 0} where
  -- a front of a list of two parts
  take-two : (w n : ℕ) (xs ys : List A) → n ≡ min w (length xs) → take w (xs ++ ys) ≡ take n xs ++ take (w - n) ys
  take-two w n xs ys e =
      ⊎_elim
      (λ (h : length xs < w).
      let all : take n xs ≡ xs = take_all n xs (omega arith) in
      let cut : w ≡ length xs + (w - n) = omega arith in
      ap (λ k. take k (xs ++ ys)) cut ∙ take-append-add xs ys (w - n) ∙ ap (λ z. z ++ take (w - n) ys) (sym all))
      (λ (h : w ≤ length xs).
      let none : w - n ≡ 0 = omega arith in
      let whole : w ≡ n = omega arith in
      take-append-le w xs ys h ∙ ap (λ k. take k xs) whole ∙ sym (append-nil (take n xs)) ∙ ap (λ k. take n xs ++ take k ys) (sym none))
      (cases_lt (length xs) w)

  -- what is left of a list of two parts
  drop_past : (s : ℕ) (xs ys : List A) → length xs ≤ s → drop s (xs ++ ys) ≡ drop (s - length xs) ys
  drop_past s xs ys h =
      let cut : s ≡ length xs + (s - length xs) = omega arith in
      ap (λ k. drop k (xs ++ ys)) cut ∙ drop-append-add xs ys (s - length xs)

  -- how long a part of a list is
  pub length_part : (a k n : ℕ) (xs : List A) → k ≡ n → a + n ≤ length xs → length (take k (drop a xs)) ≡ n
  length_part a k n xs e h = length-take-le k (drop a xs) (omega (arith, length-drop a xs)) ∙ e

module _ {X A : Type 0} (f : X → List A) where
  -- one part more, of what is to come and of what has been
  rest_is : (xs : List X) (i : ℕ) (x : X) → i < length xs → x ≡ get_or xs i x → flat_map f (drop i xs) ≡ f x ++ flat_map f (drop (i + 1) xs)
  rest_is xs i x h read = at_drop_more (flat_map f) xs i x h ∙ ap (λ y. f y ++ flat_map f (drop (i + 1) xs)) (sym read)

  front_is : (xs : List X) (i : ℕ) (x : X) → i < length xs → x ≡ get_or xs i x → flat_map f (take (i + 1) xs) ≡ flat_map f (take i xs) ++ f x
  front_is xs i x h read =
      ap (flat_map f) (take_more xs i x h ∙ ap (λ y. take i xs ++ y ∷ []) (sym read)) ∙ sym (flat_map_more f [] (take i xs) x)

  -- The walk stands before the part i. Of the buffer's frames done are written, and skip are to be passed over before the next.
  pub record Walk (xs : List X) (start : ℕ) (old : List A) (i skip done : ℕ) (new : List A) : Type 0 where
    pub within : done ≤ length old
    pub long : length new ≡ length old
    pub enough : skip + (length old - done) ≤ length (flat_map f (drop i xs))
    pub target : take (length old) (drop start (flat_map f xs)) ≡ take done new ++ take (length old - done) (drop skip (flat_map f (drop i xs)))
    pub rest : drop done new ≡ drop done old
    pub place : done < length old → start + done ≡ length (flat_map f (take i xs)) + skip
    pub fresh : 0 < done → skip ≡ 0

  module _ (xs : List X) (start : ℕ) (old : List A) (i skip done : ℕ) (new : List A) (w : Walk xs start old i skip done new) where
    module _ (x : X) (here : i < length xs) (read : x ≡ get_or xs i x) where
      pub walk_skip : length (f x) ≤ skip → done < length old → Walk xs start old (i + 1) (skip - length (f x)) done new
      walk_skip h more =
          let r = rest_is xs i x here read in
          let lr : length (flat_map f (drop i xs)) ≡ length (f x) + length (flat_map f (drop (i + 1) xs)) = ap length r ∙ length-append (f x) _ in
          let lf : length (flat_map f (take (i + 1) xs)) ≡ length (flat_map f (take i xs)) + length (f x) = ap length (front_is xs i x here read) ∙ length-append _ (f x) in
          record {
            within = w.within;
            long = w.long;
            enough = omega (arith, w.enough);
            target = w.target ∙ ap (λ z. take done new ++ take (length old - done) z) (ap (drop skip) r ∙ drop_past skip (f x) _ h);
            rest = w.rest;
            place = λ l. omega (arith, w.place l);
            fresh = λ l. omega (arith, w.fresh l);
          }

      -- where the walk would write next
      pub walk_at : skip < length (f x) → done < length old → length (flat_map f (take i xs)) - start ≡ done
      walk_at h more = let place = w.place more in let fresh = w.fresh in search (rules, arith)

      pub walk_read : (n k : ℕ) (part : List A) → skip < length (f x) → n ≡ min (length old - done) (length (f x) - skip) → k ≡ n → part ≡ take n (drop skip (f x)) → Walk xs start old (i + 1) 0 (done + n) (put_mid done k new part)
      walk_read n k part h least ek ep =
          let r = rest_is xs i x here read in
          let lr : length (flat_map f (drop i xs)) ≡ length (f x) + length (flat_map f (drop (i + 1) xs)) = ap length r ∙ length-append (f x) _ in
          let lf : length (flat_map f (take (i + 1) xs)) ≡ length (flat_map f (take i xs)) + length (f x) = ap length (front_is xs i x here read) ∙ length-append _ (f x) in
          let ld : length (drop skip (f x)) ≡ length (f x) - skip = length-drop skip (f x) in
          let lp : length part ≡ n = ap length ep ∙ length-take-le n (drop skip (f x)) (omega arith) in
          let sub : length old - done - n ≡ length old - (done + n) = omega arith in
          let fits : done ≤ length new = omega (arith, w.within, w.long) in
          let wrote : take (done + n) (put_mid done k new part) ≡ take done new ++ part = take-put_mid done k new part (done + n) (omega arith) fits in
          let cut : drop skip (flat_map f (drop i xs)) ≡ drop skip (f x) ++ flat_map f (drop (i + 1) xs) = ap (drop skip) r ∙ drop-append-le skip (f x) _ (omega arith) in
          let two = take-two (length old - done) n (drop skip (f x)) (flat_map f (drop (i + 1) xs)) (omega arith) in
          record {
            within = omega (arith, w.within);
            long = omega (arith, w.within, w.long, length-append (take done new) (part ++ drop k (drop done new)), length-append part (drop k (drop done new)), length-take-le done new fits, length-drop k (drop done new), length-drop done new);
            enough = omega (arith, w.enough);
            target =
                w.target ∙ ap (λ z. take done new ++ take (length old - done) z) cut
                ∙ ap (λ z. take done new ++ z) (two ∙ ap (λ z. z ++ take (length old - done - n) (flat_map f (drop (i + 1) xs))) (sym ep) ∙ ap (λ k. part ++ take k (flat_map f (drop (i + 1) xs))) sub)
                ∙ sym (append_assoc (take done new) part _)
                ∙ ap (λ z. z ++ take (length old - (done + n)) (flat_map f (drop (i + 1) xs))) (sym wrote);
            rest = drop-put_mid done k new part (done + n) (omega arith) fits (omega arith) ∙ sym (drop-drop n done new) ∙ ap (drop n) w.rest ∙ drop-drop n done old;
            place = λ l. omega (arith, w.place (omega arith));
            fresh = λ _. refl;
          }

    -- the frames that are written
    pub walk_front : take done new ≡ take done (drop start (flat_map f xs))
    walk_front =
        let fits : done ≤ length new = omega (arith, w.within, w.long) in
        sym (sym (take-take done (length old) (drop start (flat_map f xs)) w.within) ∙ ap (take done) w.target ∙ take_at (take done new) _ done (length-take-le done new fits))

  -- the same walk by other names
  pub walk_as : {xs : List X} {start : ℕ} {old : List A} {i skip skip' done done' : ℕ} {new new' : List A} → skip' ≡ skip → done' ≡ done → new' ≡ new → Walk xs start old i skip done new → Walk xs start old i skip' done' new'
  walk_as {xs} {start} {old} {i} {skip} {skip'} {done} {done'} {new} {new'} es ed en w =
      let P : ℕ → Type 0 = λ z. Walk xs start old i z done new in
      let Q : ℕ → Type 0 = λ z. Walk xs start old i skip' z new in
      let R : List A → Type 0 = λ z. Walk xs start old i skip' done' z in
      subst R (sym en) (subst Q (sym ed) (subst P (sym es) w))
