-- What a store keeps as counts fall. Assumes nothing.
use Rattle.std.proofs.Common.{◌≡◌, ℕ, ◌<◌, ◌≤◌, List, [], length, get_or, set, Ok, Err, Result, sym, refl, ◌∙◌, subst, ⊎_elim, arith}
use Rattle.std.proofs.lemmas.List.{get_or_past, get_or-set_same, get_or-set_other, length-set, nil_from_length}
use Rattle.std.proofs.lemmas.Bool.{cases_eq, cases_lt}
use Rattle.std.proofs.lemmas.Bool.Decides.{nat_tests}
use Rattle.stores.specs.declared.fault.StoreFault.{StoreFault}
use Rattle.stores.specs.Meaning.{Meaning, capacity, block, holding}
use Rattle.stores.specs.Promise.{Releases}
use Rattle.pool.specs.declared.account.Account.{Account}
use Rattle.pool.specs.Freed.{Freed, left}
use Rattle.pool.specs.Accounts.{counts}
use Rattle.pool.proofs.Accounts.{Lowered}

module _ {F : Type 0} where
  pub left_keeps : (old new : ℕ) (b : List F) → (new ≡ 0 → old ≡ 0) → left old new b ≡ b
  left_keeps old new b h = grind (arith, nat_tests)

  pub left_frees : (old new : ℕ) (b : List F) → 0 < old → new ≡ 0 → left old new b ≡ []
  left_frees old new b h e = grind (arith, nat_tests)

  -- a store with one block less
  pub record Emptied (m : Meaning F) (i : ℕ) (m' : Meaning F) : Type 0 where
    pub same_limit : m'.limit ≡ m.limit
    pub same_health : m'.ailing ≡ m.ailing
    pub same_capacity : capacity m' ≡ capacity m
    pub gone : block m' i ≡ []
    pub others : (n : ℕ) → (n ≡ i → ⊥) → block m' n ≡ block m n

  pub emptied_here : (bs : List (List F)) (i : ℕ) → get_or (set bs i []) i [] ≡ []
  emptied_here bs i =
      ⊎_elim (λ (l : i < length bs). get_or-set_same bs i [] [] l) (λ (l : length bs ≤ i). get_or_past (set bs i []) i [] (rw length-set l)) (cases_lt i (length bs))

  holding_emptied : (m : Meaning F) (i : ℕ) → Emptied m i (holding m i [])
  holding_emptied m i = record {
    same_limit = refl;
    same_health = refl;
    same_capacity = length-set m.blocks i [];
    gone = emptied_here m.blocks i;
    others = λ n ne. get_or-set_other m.blocks i n [] [] ne;
  }

  same_emptied : (m : Meaning F) (i : ℕ) → length (block m i) ≡ 0 → Emptied m i m
  same_emptied m i e = record {
    same_limit = refl;
    same_health = refl;
    same_capacity = refl;
    gone = nil_from_length (block m i) e;
    others = λ n ne. refl;
  }

  pub emptied : {U : Type 0} (m : Meaning F) (i : ℕ) (r : Result U StoreFault) (m' : Meaning F) → Releases m i r m' → Emptied m i m'
  emptied m i (Ok u) m' h = subst (Emptied m i) (sym h.1) (holding_emptied m i)
  emptied m i (Err f) m' h = subst (Emptied m i) (sym h.2) (same_emptied m i h.0)

  module _ (m m' : Meaning F) (before after : List Account) (i rest : ℕ) (fall : Lowered before after i rest) where
    -- a count that falls, but not to 0, frees nothing
    pub freed_none : (rest ≡ 0 → ⊥) → Freed m (counts before) m (counts after)
    freed_none some = record {
      same_limit = refl;
      same_health = refl;
      same_capacity = refl;
      blocks = λ n. sym (left_keeps (get_or (counts before) n 0) (get_or (counts after) n 0) (block m n) (none_before n));
    }
      where
        none_before : (n : ℕ) → get_or (counts after) n 0 ≡ 0 → get_or (counts before) n 0 ≡ 0
        none_before n none = grind (arith, nat_tests, fall.less n, fall.was)

    -- a count that falls to 0 frees its block
    pub freed_one : rest ≡ 0 → Emptied m i m' → Freed m (counts before) m' (counts after)
    freed_one last e = record {
      same_limit = e.same_limit;
      same_health = e.same_health;
      same_capacity = e.same_capacity;
      blocks = λ n.
          ⊎_elim
          (λ (k : n ≡ i). rw k (e.gone ∙ sym (left_frees (get_or (counts before) i 0) (get_or (counts after) i 0) (block m i) (omega (arith, fall.was)) none_after)))
          (λ (k : n ≡ i → ⊥). e.others n k ∙ sym (left_keeps (get_or (counts before) n 0) (get_or (counts after) n 0) (block m n) (none_before n k)))
          (cases_eq n i);
    }
      where
        none_after : get_or (counts after) i 0 ≡ 0
        none_after = grind (arith, nat_tests, fall.less i, fall.was)

        none_before : (n : ℕ) → (n ≡ i → ⊥) → get_or (counts after) n 0 ≡ 0 → get_or (counts before) n 0 ≡ 0
        none_before n other none = grind (arith, nat_tests, fall.less n)
