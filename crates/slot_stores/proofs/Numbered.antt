-- Blocks in slots: what a number holds, a change of one slot, and where the slots lie.
use Rattle.std.proofs.Common.{◌≡◌, ℕ, ◌+◌, ◌*◌, ◌/◌, ◌%◌, ◌<◌, ◌≤◌, min, ◌&&◌, eqb, leb, ◌⊎◌, List, [], length, get_or, set, replicate, sym, ap, ◌∙◌, subst, inl, inr, ⊎_elim, mul-le-mul_right, add-mul, one-mul, zero-mul, div-mul-le_self, arith, length-set, get_or-set_other, get_or-set_same}
use Rattle.std.proofs.lemmas.List.{same_lists, length-replicate, get_or-replicate, get_or_past}
use Rattle.std.proofs.lemmas.Bool.{cases_eq, cases_lt, cond_both, leb-true, and_parts}
use Rattle.std.proofs.lemmas.List.FromFn.{length-map-range_with_len, get_or-map-range_with_len}
use Rattle.slot_stores.specs.Slots.{numbered, limit_fits, count_of_slots}

module _ {F : Type 0} where
  pub numbered_length : (held : ℕ → List F) (n : ℕ) → length (numbered held n) ≡ n
  numbered_length held n = length-map-range_with_len held 0 n

  pub numbered_at : (held : ℕ → List F) (n i : ℕ) → i < n → get_or (numbered held n) i [] ≡ held i
  numbered_at held n i h = get_or-map-range_with_len held 0 n i i [] h (omega arith)

  pub numbered_past : (held : ℕ → List F) (n i : ℕ) → n ≤ i → get_or (numbered held n) i [] ≡ []
  numbered_past held n i h = get_or_past (numbered held n) i [] (subst (λ k. k ≤ i) (sym (numbered_length held n)) h)

  -- one slot holds another block, and the others hold what they held
  pub numbered_set : (held held' : ℕ → List F) (n i : ℕ) (b : List F) → i < n → held' i ≡ b
      → ((k : ℕ) → k < n → (k ≡ i → ⊥) → held' k ≡ held k) → numbered held' n ≡ set (numbered held n) i b
  numbered_set held held' n i b h at others =
      let len = numbered_length held n in
      let len' = numbered_length held' n in
      same_lists _ _ (len' ∙ sym len ∙ sym (length-set (numbered held n) i b))
      (λ k d lt.
      let lt' : k < n = subst (λ m. k < m) len' lt in
      get_or-map-range_with_len held' 0 n k k d lt' (omega arith) ∙
      ⊎_elim
      (λ e. ap held' e ∙ at ∙ sym (get_or-set_same (numbered held n) i b d (subst (λ m. i < m) (sym len) h)) ∙ ap (λ m. get_or (set (numbered held n) i b) m d) (sym e))
      (λ ne. others k lt' ne ∙ sym (get_or-set_other (numbered held n) i k b d ne ∙ get_or-map-range_with_len held 0 n k k d lt' (omega arith)))
      (cases_eq k i))

  -- all slots hold the same
  pub numbered_same : (held : ℕ → List F) (n : ℕ) (b : List F) → ((k : ℕ) → k < n → held k ≡ b) → numbered held n ≡ replicate n b
  numbered_same held n b all =
      let len = numbered_length held n in
      same_lists _ _ (len ∙ sym (length-replicate n b)) (λ k d lt.
      let lt' : k < n = subst (λ m. k < m) len lt in
      get_or-map-range_with_len held 0 n k k d lt' (omega arith) ∙ all k lt' ∙ sym (get_or-replicate n k b d lt'))

-- a list of equals has the same everywhere
pub equals_at : {X : Type 0} (m n : ℕ) (x : X) → get_or (replicate m x) n x ≡ x
equals_at m n x = ⊎_elim (λ h. get_or-replicate m n x x h) (λ h. get_or_past (replicate m x) n x (subst (λ k. k ≤ n) (sym (length-replicate m x)) h)) (cases_lt n m)

pub slots_fit : (limit size total : ℕ) → count_of_slots limit size total * size ≤ total
slots_fit limit size total =
    cond_both (limit_fits limit) (min (total / size) 1024) 0 (λ n. n * size ≤ total)
    (λ _. let m = mul-le-mul_right {m = min (total / size) 1024} {n = total / size} size (omega arith) in omega (arith, div-mul-le_self total size))
    (λ _. omega (arith, zero-mul size))

pub slots_few : (limit size total : ℕ) → count_of_slots limit size total ≤ 1024
slots_few limit size total = cond_both (limit_fits limit) (min (total / size) 1024) 0 (λ n. n ≤ 1024) (λ _. omega arith) (λ _. omega arith)

-- slots of a size do not overlap: the part of one slot lies before or after another slot
pub apart : (i k size count : ℕ) → (k ≡ i → ⊥) → count ≤ size → (k * size + count ≤ i * size) ⊎ (i * size + size ≤ k * size)
apart i k size count ne le =
    ⊎_elim
    (λ h. let m = mul-le-mul_right {m = k + 1} {n = i} size (omega arith) in inl (omega (arith, add-mul k 1 size, one-mul size)))
    (λ h. let m = mul-le-mul_right {m = i + 1} {n = k} size (omega arith) in inr (omega (arith, add-mul i 1 size, one-mul size)))
    (cases_lt k i)

-- a slot lies within the whole
pub within : (i n size : ℕ) → i < n → i * size + size ≤ n * size
within i n size h = let m = mul-le-mul_right {m = i + 1} {n = n} size (omega arith) in omega (arith, add-mul i 1 size, one-mul size)

-- where there is a slot, the limit fits
pub limit_of : (limit size total i : ℕ) → i < count_of_slots limit size total → limit ≤ 65536
limit_of limit size total i =
    cond_both (limit_fits limit) (min (total / size) 1024) 0 (λ n. i < n → limit ≤ 65536)
    (λ e _. leb-true limit 65536 (and_parts (leb 4 limit) (leb limit 65536) (and_parts (leb 4 limit && leb limit 65536) (eqb (limit % 2) 0) e).0).1)
    (λ _ h. absurd (omega arith))
