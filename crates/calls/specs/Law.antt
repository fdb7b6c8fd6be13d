-- The history law: what an editor shows is what the plain-list editor gives. Assumes nothing.
use Rattle.std.specs.Prelude.{◌≡◌, ℕ, ◌+◌, ◌-◌, ◌≤◌, true, List, length, take, drop, slice_index_or}
use Rattle.calls.specs.Plain as plain
use Rattle.calls.specs.Plain.{Rows, empty, Plain, Call, start, begin, step, keep, withdraw, undo, redo, forget, rearm, read, Event, plain}
use Rattle.calls.specs.View.{View, Sitting, Follows, now_at}

-- What a started editor shows is what the plain-list editor gives.
pub record Shows {F : Type 0} (p : Plain F) (v : View F) : Type 0 where
  -- as many past and future states
  pub pasts : v.at ≡ plain.pasts p
  pub futures : length v.states ≡ v.at + 1 + plain.futures p
  pub current : now_at v ≡ plain.current p
  pub draft : v.draft ≡ plain.draft p
  -- the i-th newest past state, and the i-th future state
  pub past : (i : ℕ) → i ≤ v.at → slice_index_or v.states (v.at - i) empty ≡ plain.past_state p i
  pub future : (i : ℕ) → i ≤ plain.futures p → slice_index_or v.states (v.at + i) empty ≡ plain.future_state p i

pub record Agrees {F : Type 0} (p : Plain F) (v : View F) : Type 0 where
  pub started : v.started ≡ p.started
  pub shows : v.started ≡ true → Shows p v

-- a reading's buffer holds its row's frames from its start on
abbrev pub Filled : {F : Type 0} → Plain F → Call F → Type 0
Filled p start = Unit {0}
Filled p begin = Unit {0}
Filled p (step x) = Unit {0}
Filled p keep = Unit {0}
Filled p withdraw = Unit {0}
Filled p undo = Unit {0}
Filled p redo = Unit {0}
Filled p forget = Unit {0}
Filled p rearm = Unit {0}
Filled p (read r from buffer) = buffer ≡ take (length buffer) (drop from (plain.row (plain.shown p) r))

-- After every list of calls, some refused, the editor shows what the plain-list editor gives, and a reading that is then
-- done fills its buffer.
abbrev pub HistoryLaw : Type 0 → Type 0
HistoryLaw F = (log : List (Event F)) (v : View F) → Sitting log v → Agrees (plain log) v × ((c : Call F) (w : View F) → Follows (record { call = c; done = true }) v w → Filled (plain log) c)
