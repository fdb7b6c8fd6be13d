-- The plain-list editor: what a list of calls comes to on plain lists of frames. Assumes nothing.
use Rattle.std.specs.Prelude.{ℕ, ◌+◌, ◌-◌, min, Bool, true, false, List, [], ◌∷◌, ◌++◌, length, take, drop, Some, None, Option, slice_index_or, slice_range, slice_set}
use Rattle.std.specs.Option.{option_map, unwrap_or}

-- Five lists of frames: tracks 0 to 3, and the clip, row 4.
abbrev pub Rows : Type 0 → Type 0
Rows F = List (List F)

abbrev pub empty : {F : Type 0} → Rows F
empty = [] ∷ [] ∷ [] ∷ [] ∷ [] ∷ []

abbrev pub row : {F : Type 0} → Rows F → ℕ → List F
row s i = slice_index_or s i []

-- Each has its track first. A span is its start and its end.
pub data Step (F : Type 0) : Type 0 where
  copy : (track from to : ℕ) → Step F
  delete : (track from to : ℕ) → Step F
  paste : (track at : ℕ) → Step F
  insert : (track at : ℕ) (frames : List F) → Step F
  overwrite : (track at : ℕ) (frames : List F) → Step F

-- xs with the n frames from `at` on replaced by ys
abbrev pub replaced : {F : Type 0} → List F → ℕ → ℕ → List F → List F
replaced xs at n ys = take at xs ++ ys ++ drop (at + n) xs

abbrev pub apply : {F : Type 0} → Step F → Rows F → Rows F
apply (copy t from to) s = slice_set s 4 (slice_range (row s t) from to)
apply (delete t from to) s = slice_set s t (replaced (row s t) from (to - from) [])
apply (paste t at) s = slice_set s t (replaced (row s t) at 0 (row s 4))
apply (insert t at frames) s = slice_set s t (replaced (row s t) at 0 frames)
apply (overwrite t at frames) s = slice_set s t (replaced (row s t) at (length frames) frames)

-- An edit is its steps, in their order.
abbrev pub Edit : Type 0 → Type 0
Edit F = List (Step F)

abbrev pub edited : {F : Type 0} → Edit F → Rows F → Rows F
edited [] s = s
edited (x ∷ e) s = edited e (apply x s)

-- Edits one after another, the oldest first.
abbrev pub onward : {F : Type 0} → List (Edit F) → Rows F → Rows F
onward [] s = s
onward (e ∷ es) s = onward es (edited e s)

-- The standing edits, the newest first, from empty lists.
abbrev pub stood : {F : Type 0} → List (Edit F) → Rows F
stood [] = empty
stood (e ∷ es) = edited e (stood es)

pub record Plain (F : Type 0) : Type 0 where
  pub started : Bool
  -- the newest first
  pub standing : List (Edit F)
  -- the next to be redone first
  pub waiting : List (Edit F)
  pub editing : Option (Edit F)
  pub past : ℕ

pub data Call (F : Type 0) : Type 0 where
  start : Call F
  begin : Call F
  step : Step F → Call F
  keep : Call F
  withdraw : Call F
  undo : Call F
  redo : Call F
  forget : Call F
  rearm : Call F
  -- a reading of a row from a frame on, and what its buffer holds after it
  read : (row from : ℕ) (buffer : List F) → Call F

-- A call, and whether it was done.
pub record Event (F : Type 0) : Type 0 where
  pub call : Call F
  pub done : Bool

abbrev pub unstarted : {F : Type 0} → Plain F
unstarted = record { started = false; standing = []; waiting = []; editing = None; past = 0 }

abbrev pub with_editing : {F : Type 0} → Plain F → Option (Edit F) → Plain F
with_editing p o = record { started = p.started; standing = p.standing; waiting = p.waiting; editing = o; past = p.past }

abbrev pub kept : {F : Type 0} → Plain F → Option (Edit F) → Plain F
kept p None = p
kept p (Some e) = record { started = p.started; standing = e ∷ p.standing; waiting = []; editing = None; past = min 15 (p.past + 1) }

abbrev pub undone : {F : Type 0} → Plain F → List (Edit F) → Plain F
undone p [] = p
undone p (e ∷ es) = record { started = p.started; standing = es; waiting = e ∷ p.waiting; editing = p.editing; past = p.past - 1 }

abbrev pub redone : {F : Type 0} → Plain F → List (Edit F) → Plain F
redone p [] = p
redone p (e ∷ es) = record { started = p.started; standing = e ∷ p.standing; waiting = es; editing = p.editing; past = min 15 (p.past + 1) }

abbrev pub did : {F : Type 0} → Call F → Plain F → Plain F
did start p = record { started = true; standing = []; waiting = []; editing = None; past = 0 }
did begin p = with_editing p (Some [])
did (step x) p = with_editing p (option_map (λ e. e ++ (x ∷ [])) p.editing)
did keep p = kept p p.editing
did withdraw p = with_editing p None
did undo p = undone p p.standing
did redo p = redone p p.waiting
did forget p = record { started = p.started; standing = p.standing; waiting = p.waiting; editing = p.editing; past = p.past - 1 }
did rearm p = p
did (read r from buffer) p = p

abbrev pub told : {F : Type 0} → Bool → Call F → Plain F → Plain F
told true c p = did c p
told false c p = p

abbrev pub advance : {F : Type 0} → Event F → Plain F → Plain F
advance e p = told e.done e.call p

-- The plain-list editor after a list of calls, the first call first.
abbrev pub fed : {F : Type 0} → Plain F → List (Event F) → Plain F
fed p [] = p
fed p (e ∷ log) = fed (advance e p) log

abbrev pub plain : {F : Type 0} → List (Event F) → Plain F
plain log = fed unstarted log

-- What the plain-list editor says.
abbrev pub current : {F : Type 0} → Plain F → Rows F
current p = stood p.standing

abbrev pub draft : {F : Type 0} → Plain F → Option (Rows F)
draft p = option_map (λ e. edited e (current p)) p.editing

-- the i-th newest past state
abbrev pub past_state : {F : Type 0} → Plain F → ℕ → Rows F
past_state p i = stood (drop i p.standing)

-- the i-th future state
abbrev pub future_state : {F : Type 0} → Plain F → ℕ → Rows F
future_state p i = onward (take i p.waiting) (current p)

abbrev pub pasts : {F : Type 0} → Plain F → ℕ
pasts p = p.past

abbrev pub futures : {F : Type 0} → Plain F → ℕ
futures p = length p.waiting

-- the rows that a reading is of: the draft's, or the current ones where no edit is open
abbrev pub shown : {F : Type 0} → Plain F → Rows F
shown p = unwrap_or (draft p) (current p)
