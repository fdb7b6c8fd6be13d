-- The entries of states, and sums over them: how many name a number is one such sum.
use Rattle.std.specs.Prelude.{ℕ, cond, List, [], ◌∷◌, map, length, drop, sum_by, nat_lt}
use Rattle.rows.specs.declared.entry.Entry.{Entry}
use Rattle.rows.specs.declared.row.Row.{Row}
use Rattle.pool.specs.Counts.{once}
use Rattle.states.specs.declared.state.State.{State}

-- the entries of each row: tracks 0 to 3, and the clip, row 4
abbrev pub Rows : Type 0
Rows = List (List Entry)

-- the entries of a row
abbrev pub entries_of : Row → List Entry
entries_of r = r.entries.items

-- the rows of a state
abbrev pub contents : State → Rows
contents s = map entries_of s.rows

-- five empty rows
abbrev pub blank : Rows
blank = [] ∷ [] ∷ [] ∷ [] ∷ [] ∷ []

-- one where an entry names the number n
abbrev pub names : ℕ → Entry → ℕ
names n e = once n e.block

-- the sum of f over the entries of rows, and of the rows of several states
abbrev pub weigh : (Entry → ℕ) → Rows → ℕ
weigh f rows = sum_by (sum_by f) rows

abbrev pub weigh_all : (Entry → ℕ) → List Rows → ℕ
weigh_all f ss = sum_by (weigh f) ss

-- the states without the oldest, where there are more than 15
abbrev pub newest : {X : Type 0} → List X → List X
newest xs = cond (nat_lt 15 (length xs)) (drop 1 xs) xs
