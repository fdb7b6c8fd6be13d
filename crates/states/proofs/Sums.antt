-- How many entries of the rows of states name a number, row by row and state by state. Assumes nothing.
use Rattle.std.proofs.Common.{◌≡◌, ℕ, ◌+◌, ◌<◌, List, [], ◌∷◌, ◌++◌, length, map, get_or, take, drop, sym, ap, ◌∙◌, arith}
use Rattle.std.proofs.lemmas.List.{length-map, get_or-map, map-append, take-append-drop}
use Rattle.std.proofs.lemmas.List.Sums.{sum_by_more, sum_by-append, sum_by-cons, sum_by_push}
use Rattle.std.specs.List.{sum_by}
use Rattle.rows.specs.declared.entry.Entry.{Entry}
use Rattle.rows.specs.declared.row.Row.{Row}
use Rattle.pool.specs.Counts.{naming}
use Rattle.states.specs.declared.state.State.{State}
use Rattle.states.specs.Rows.{entries_of, contents, names, weigh, weigh_all}

-- the rows up to one, and with it
pub weigh_more : (n : ℕ) (rows : List Row) (i : ℕ) (row : Row) (es : List Entry) → i < length rows → row ≡ get_or rows i row → es ≡ entries_of (get_or rows i row) → weigh (names n) (take (i + 1) (map entries_of rows)) ≡ weigh (names n) (take i (map entries_of rows)) + naming n es
weigh_more n rows i row es here read are =
    sum_by_more (sum_by (names n)) (map entries_of rows) i (entries_of row) (rw length-map here) ∙ ap (λ z. weigh (names n) (take i (map entries_of rows)) + naming n z) (get_or-map entries_of rows i row (entries_of row) here ∙ sym are)

-- the first state and the others
pub weigh_first : (n : ℕ) (states : List State) (s : State) → 0 < length states → s ≡ get_or states 0 s → weigh_all (names n) (map contents states) ≡ weigh (names n) (contents s) + weigh_all (names n) (map contents (drop 1 states))
weigh_first n [] s here is = absurd (omega arith)
weigh_first n (x ∷ xs) s here is = sum_by-cons (weigh (names n)) (contents x) (map contents xs) ∙ ap (λ z. weigh (names n) (contents z) + weigh_all (names n) (map contents xs)) (sym is)

-- the last state and the others
pub weigh_last : (n : ℕ) (before after : List State) (s : State) → before ≡ after ++ s ∷ [] → weigh_all (names n) (map contents before) ≡ weigh_all (names n) (map contents after) + weigh (names n) (contents s)
weigh_last n before after s is =
    ap (λ z. weigh_all (names n) (map contents z)) is ∙ ap (weigh_all (names n)) (map-append contents after (s ∷ [])) ∙ sum_by_push (weigh (names n)) (map contents after) (contents s)

-- the first states and the others
pub weigh_parts : (n k : ℕ) (states : List State) → weigh_all (names n) (map contents states) ≡ weigh_all (names n) (map contents (take k states)) + weigh_all (names n) (map contents (drop k states))
weigh_parts n k states =
    ap (λ z. weigh_all (names n) (map contents z)) (sym (take-append-drop k states)) ∙ ap (weigh_all (names n)) (map-append contents (take k states) (drop k states)) ∙ sum_by-append (weigh (names n)) (map contents (take k states)) (map contents (drop k states))
