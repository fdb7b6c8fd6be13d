-- What an editor stands for, and what each call that is done makes of it. Assumes nothing.
use Rattle.std.specs.Prelude.{◌≡◌, ℕ, ◌+◌, ◌-◌, ◌<◌, ◌≤◌, Bool, true, false, List, [], ◌∷◌, ◌++◌, length, take, drop, Some, None, Option, slice_index_or}
use Rattle.std.specs.Option.{unwrap_or}
use Rattle.calls.specs.Plain.{Rows, empty, row, apply, Call, start, begin, step, keep, withdraw, undo, redo, forget, rearm, read, Event}

-- The states from the oldest on, the current one at `at`: those before it are past, those after it future.
pub record View (F : Type 0) : Type 0 where
  pub started : Bool
  pub states : List (Rows F)
  pub at : ℕ
  pub draft : Option (Rows F)

abbrev pub now_at : {F : Type 0} → View F → Rows F
now_at v = slice_index_or v.states v.at empty

-- the rows that a reading is of: the draft's, or the current ones where no edit is open
abbrev pub shown : {F : Type 0} → View F → Rows F
shown v = unwrap_or v.draft (now_at v)

abbrev pub with_draft : {F : Type 0} → View F → Option (Rows F) → View F
with_draft v o = record { started = v.started; states = v.states; at = v.at; draft = o }

abbrev pub with_states : {F : Type 0} → View F → List (Rows F) → ℕ → View F
with_states v ss i = record { started = v.started; states = ss; at = i; draft = None }

-- the states up to the current one, and then d
abbrev pub pushed : {F : Type 0} → View F → Rows F → List (Rows F)
pushed v d = take (v.at + 1) v.states ++ (d ∷ [])

-- Keep drops the future and makes the draft current. The oldest state goes where 17 would stand.
pub data Keeps {F : Type 0} (v : View F) (d : Rows F) : View F → Type 0 where
  room : v.at + 2 ≤ 16 → Keeps v d (with_states v (pushed v d) (v.at + 1))
  full : v.at + 2 ≡ 17 → Keeps v d (with_states v (drop 1 (pushed v d)) v.at)

-- No edit is open.
abbrev pub Idle : {F : Type 0} → View F → Type 0
Idle v = (v.started ≡ true) × (v.draft ≡ None)

-- The draft is d.
abbrev pub Editing : {F : Type 0} → View F → Rows F → Type 0
Editing v d = (v.started ≡ true) × (v.draft ≡ Some d)

-- A call that is done takes the view v to the view w.
abbrev pub Does : {F : Type 0} → Call F → View F → View F → Type 0
Does start v w = (v.started ≡ false) × (w ≡ record { started = true; states = empty ∷ []; at = 0; draft = None })
Does begin v w = Idle v × (w ≡ with_draft v (Some (now_at v)))
Does {F} (step x) v w = (d : Rows F) × Editing v d × (w ≡ with_draft v (Some (apply x d)))
Does {F} keep v w = (d : Rows F) × Editing v d × Keeps v d w
Does {F} withdraw v w = (d : Rows F) × Editing v d × (w ≡ with_draft v None)
Does undo v w = Idle v × (0 < v.at) × (w ≡ with_states v v.states (v.at - 1))
Does redo v w = Idle v × (v.at + 1 < length v.states) × (w ≡ with_states v v.states (v.at + 1))
Does forget v w = Idle v × (0 < v.at) × (w ≡ with_states v (drop 1 v.states) (v.at - 1))
Does rearm v w = w ≡ v
Does (read r from buffer) v w = (v.started ≡ true) × (buffer ≡ take (length buffer) (drop from (row (shown v) r))) × (w ≡ v)

-- A refused call changes nothing.
abbrev pub Moves : {F : Type 0} → Bool → Call F → View F → View F → Type 0
Moves true c v w = Does c v w
Moves false c v w = w ≡ v

abbrev pub Follows : {F : Type 0} → Event F → View F → View F → Type 0
Follows e v w = Moves e.done e.call v w

-- The calls that were made, the first call first, and the view that they led to.
pub data Sitting {F : Type 0} : List (Event F) → View F → Type 0 where
  none : {v : View F} → v.started ≡ false → Sitting [] v
  more : {log : List (Event F)} {v w : View F} → Sitting log v → (e : Event F) → Follows e v w → Sitting (log ++ (e ∷ [])) w
