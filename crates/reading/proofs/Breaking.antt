-- Where the walk over parts breaks off. Assumes nothing.
use Rattle.std.proofs.Common.{◌≡◌, ℕ, ◌+◌, ◌-◌, ◌^◌, ◌<◌, min, List, ◌++◌, length, get_or, take, drop, rules, sym, ap, ◌∙◌, arith}
use borrow.Rule.Slice.PartMut.{put_mid}
use Rattle.std.specs.List.{flat_map}
use Rattle.std.proofs.lemmas.List.{drop-drop}
use Rattle.stores.specs.Meaning.{Meaning}
use Rattle.reading.specs.declared.fault.ReadFault.{ReadFault}
use Rattle.reading.specs.declared.part.Part as part
use Rattle.reading.specs.Walks.{Breaks}
use Rattle.reading.proofs.Walk.{Walk, walk_at, walk_front}
use Rattle.reading.proofs.Places.{split_at}

module _ {X S F : Type 0} (p : part.Ghosts X S F) where
  -- the fill of n frames of the part x fails, and leaves `left` in the buffer
  pub breaks : {m m' : Meaning F} {xs : List X} {start : ℕ} {old : List F} {i skip done : ℕ} {new : List F} →
      Walk (p.frames m) xs start old i skip done new → (0 < done → p.serves m) →
      (x : X) → i < length xs → x ≡ get_or xs i x → length (p.frames m x) ≡ p.size x → skip < p.size x → done < length old →
      (n k : ℕ) → n ≡ min (length old - done) (p.size x - skip) → k ≡ n →
      (f : ReadFault) → f.at ≡ min (start + done) (2 ^ 64 - 1) → (left : List F) → p.fails m x skip (take k (drop done new)) f.fault left m' →
      Breaks p m xs start old f (put_mid done k new left) m'
  breaks {m} {m'} {xs} {start} {old} {i} {skip} {done} {new} w serves x here read long h more n k least ek f at left fails =
      let before : List F = flat_map (p.frames m) (take i xs) in
      let place = w.place more in
      let placed : done ≡ length before - start = sym (walk_at (p.frames m) xs start old i skip done new w x here read (omega arith) more) in
      let fresh = w.fresh in
      let offset : skip ≡ start - length before = search (rules, arith) in
      record {
        before = take i xs;
        part = x;
        behind = drop (i + 1) xs;
        split = split_at xs i x here read;
        some = omega arith;
        low = omega arith;
        high = omega arith;
        done = done;
        placed = placed;
        at = at;
        count = n;
        least = least ∙ ap (λ z. min (length old - done) (p.size x - z)) offset;
        left = left;
        fails = rw (← offset, ← ek, ← w.rest) fails;
        written = ap (λ z. z ++ (left ++ drop k (drop done new))) (walk_front (p.frames m) xs start old i skip done new w) ∙ ap (λ z. take done (drop start (flat_map (p.frames m) xs)) ++ (left ++ z)) (ap (drop k) w.rest ∙ drop-drop k done old ∙ ap (λ z. drop (done + z) old) ek);
        serves = serves;
      }
