-- One account written over another, in the list of counts and in the list of measures. Assumes nothing.
use Rattle.std.proofs.Common.{◌≡◌, ℕ, ◌+◌, ◌-◌, ◌^◌, ◌<◌, ◌≤◌, List, length, min, get_or, set, sym, ap, ◌∙◌, arith}
use Rattle.std.specs.List.{HoldsAt}
use Rattle.std.proofs.Math.Seq.{map-set_same}
use Rattle.std.proofs.lemmas.List.{map-set, length-map, get_or-map, get_or-set_same, get_or-set_other}
use Rattle.std.proofs.lemmas.Bool.Decides.{nat_tests}
use Rattle.measures.specs.declared.summary.Summary.{Summary}
use Rattle.pool.specs.declared.account.Account.{Account}
use Rattle.pool.specs.Accounts.{counts, kepts}
use Rattle.pool.specs.Counts.{once}

-- one more at i, where it fits
one_more : (xs : List ℕ) (i c n : ℕ) → i < length xs → get_or xs i 0 ≡ c → get_or xs n 0 + once n i < 2 ^ 32 → get_or (set xs i (min (c + 1) (2 ^ 32 - 1))) n 0 ≡ get_or xs n 0 + once n i
one_more xs i c n here is fits = grind (arith, nat_tests, get_or-set_same xs i (min (c + 1) (2 ^ 32 - 1)) 0 here, get_or-set_other xs i n (min (c + 1) (2 ^ 32 - 1)) 0)

-- one less at i
pub one_less : (xs : List ℕ) (i left n : ℕ) → i < length xs → get_or xs i 0 ≡ left + 1 → get_or (set xs i left) n 0 ≡ get_or xs n 0 - once n i
one_less xs i left n here is = grind (arith, nat_tests, get_or-set_same xs i left 0 here, get_or-set_other xs i n left 0)

-- from one list of accounts to another, one entry less names the number i
pub record Lowered (before after : List Account) (i left : ℕ) : Type 0 where
  pub kept : kepts after ≡ kepts before
  pub was : get_or (counts before) i 0 ≡ left + 1
  pub less : (n : ℕ) → get_or (counts after) n 0 ≡ get_or (counts before) n 0 - once n i

-- the account a stands at i
module _ (accounts : List Account) (i : ℕ) (a : Account) (item : (i < length accounts) × HoldsAt (λ y. a ≡ y) accounts i) where
  -- its count alone is written
  pub kept_stay : (n : ℕ) → kepts (set accounts i (record { count = n; kept = a.kept })) ≡ kepts accounts
  kept_stay n = map-set_same (λ (x : Account). x.kept) accounts i (record { count = n; kept = a.kept }) a (ap (λ (x : Account). x.kept) (item.1 a))

  -- its measures alone are written
  pub counts_stay : (k : Summary) → counts (set accounts i (record { count = a.count; kept = k })) ≡ counts accounts
  counts_stay k = map-set_same (λ (x : Account). x.count) accounts i (record { count = a.count; kept = k }) a (ap (λ (x : Account). x.count) (item.1 a))

  count_there : get_or (counts accounts) i 0 ≡ a.count
  count_there = get_or-map (λ (x : Account). x.count) accounts i a 0 item.0 ∙ sym (ap (λ (x : Account). x.count) (item.1 a))

  there : i < length (counts accounts)
  there = omega (arith, item.0, length-map accounts (λ (x : Account). x.count))

  pub raised : (n more : ℕ) → more ≡ min (a.count + 1) (2 ^ 32 - 1) → get_or (counts accounts) n 0 + once n i < 2 ^ 32 → get_or (counts (set accounts i (record { count = more; kept = a.kept }))) n 0 ≡ get_or (counts accounts) n 0 + once n i
  raised n more is fits = rw (is, map-set) (one_more (counts accounts) i a.count n there count_there fits)

  pub lowered : (left : ℕ) → (1 ≤ a.count) × (left ≡ a.count - 1) → Lowered accounts (set accounts i (record { count = left; kept = a.kept })) i left
  lowered left fall =
      let was : get_or (counts accounts) i 0 ≡ left + 1 = omega (arith, count_there, fall.0, fall.1) in
      record {
        kept = kept_stay left;
        was = was;
        less = λ n. rw map-set (one_less (counts accounts) i left n there was);
      }
