-- What a pool knows of its numbers: a list of counts and a list of measures, with one of each for a number.
use Rattle.std.specs.Prelude.{◌≡◌, ℕ, List, map}
use Rattle.std.specs.Vec.{SameBlock}
use Rattle.measures.specs.Summaries.{no_summary}
use Rattle.measures.specs.declared.summary.Summary.{Summary}
use Rattle.pool.specs.declared.account.Account.{Account}
use Rattle.pool.specs.declared.pool.Pool.{Pool}

-- of a number that nothing names and that has no block
abbrev pub no_account : Account
no_account = record { count = 0; kept = no_summary }

-- the counts of accounts, and the measures that they keep
abbrev pub counts : List Account → List ℕ
counts accounts = map (λ (a : Account). a.count) accounts

abbrev pub kepts : List Account → List Summary
kepts accounts = map (λ (a : Account). a.kept) accounts

module _ {S : Type 0} where
  -- how many entries name each number
  abbrev pub counts_of : Pool S → List ℕ
  counts_of pool = counts pool.accounts.items

  -- the measures that are kept of each number
  abbrev pub kept_of : Pool S → List Summary
  kept_of pool = kepts pool.accounts.items

  -- the counts are as they were, and the accounts lie where they lay, with the same room
  abbrev pub SameCounts : Pool S → Pool S → Type 0
  SameCounts old new = (counts_of new ≡ counts_of old) × SameBlock old.accounts new.accounts

  -- and so with what is kept
  abbrev pub SameKept : Pool S → Pool S → Type 0
  SameKept old new = (kept_of new ≡ kept_of old) × SameBlock old.accounts new.accounts
