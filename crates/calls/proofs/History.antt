-- The history law: after every list of calls the editor shows what the plain-list editor gives. Assumes nothing.
use Rattle.std.proofs.Common.{◌≡◌, ℕ, zero, suc, ◌+◌, ◌-◌, ◌<◌, ◌≤◌, Bool, true, false, List, [], ◌∷◌, ◌++◌, length, get_or, take, drop, Some, None, Option, unwrap_or, sym, refl, ap, ◌∙◌, subst, arith}
use Rattle.std.specs.Option.{option_map}
use Rattle.std.proofs.lemmas.Bool.{false≢true}
use Rattle.std.proofs.lemmas.Option.{none-some, same_Some}
use Rattle.std.proofs.lemmas.List.{length-take-le, length-drop, length_push, get_or_push, get_or_append_left, get_or-take, get_or-drop}
use Rattle.calls.specs.Plain as plain
use Rattle.calls.specs.Plain.{Rows, empty, Step, apply, Edit, edited, onward, stood, Plain, Event, Call, start, begin, step, keep, withdraw, undo, redo, forget, rearm, read, unstarted, kept, undone, redone, did, told, advance, fed, with_editing}
use Rattle.calls.specs.View.{View, Sitting, none, more, Does, Moves, Follows, Keeps, room, full, Idle, Editing, now_at, with_draft, with_states, pushed}
use Rattle.calls.specs.View as views
use Rattle.calls.specs.Law.{Agrees, Filled, HistoryLaw}

-- Two words for one place.
place : {F : Type 0} (ss : List (Rows F)) (m n : ℕ) → m ≡ n → get_or ss m empty ≡ get_or ss n empty
place ss m n e = ap (λ k. get_or ss k empty) e

-- One step more at an edit's end.
pub edited_push : {F : Type 0} (e : Edit F) (x : Step F) (s : Rows F) → edited (e ++ (x ∷ [])) s ≡ apply x (edited e s)
edited_push [] x s = refl
edited_push (y ∷ e) x s = edited_push e x (apply y s)

-- The states ss, with the current one at `at`, are those of the standing and the waiting edits.
pub record Lined {F : Type 0} (ss : List (Rows F)) (at : ℕ) (st wt : List (Edit F)) : Type 0 where
  pub long : length ss ≡ at + 1 + length wt
  pub deep : at ≤ length st
  pub back : (i : ℕ) → i ≤ at → get_or ss (at - i) empty ≡ stood (drop i st)
  pub ahead : (i : ℕ) → i ≤ length wt → get_or ss (at + i) empty ≡ onward (take i wt) (stood st)

start_back : {F : Type 0} (i : ℕ) → i ≤ 0 → get_or (empty {F = F} ∷ []) (0 - i) empty ≡ stood (drop i [])
start_back zero h = refl
start_back (suc j) h = absurd (omega arith)

start_ahead : {F : Type 0} (i : ℕ) → i ≤ 0 → get_or (empty {F = F} ∷ []) (0 + i) empty ≡ onward (take i []) empty
start_ahead zero h = refl
start_ahead (suc j) h = absurd (omega arith)

pub lined_start : {F : Type 0} → Lined {F = F} (empty ∷ []) 0 [] []
lined_start = record {
  long = refl;
  deep = omega arith;
  back = start_back;
  ahead = start_ahead;
}

module _ {F : Type 0} (ss : List (Rows F)) (at : ℕ) (st wt : List (Edit F)) (l : Lined ss at st wt) where
  keep_back : (e : Edit F) (d : Rows F) → d ≡ edited e (stood st) → (i : ℕ) → i ≤ at + 1 → get_or (take (at + 1) ss ++ (d ∷ [])) (at + 1 - i) empty ≡ stood (drop i (e ∷ st))
  keep_back e d is zero h =
      let full : length (take (at + 1) ss) ≡ at + 1 = length-take-le (at + 1) ss (omega (arith, l.long)) in
      place (take (at + 1) ss ++ (d ∷ [])) (at + 1 - 0) (at + 1) (omega arith) ∙ get_or_push (take (at + 1) ss) d empty (at + 1) full ∙ is
  keep_back e d is (suc j) h =
      let full : length (take (at + 1) ss) ≡ at + 1 = length-take-le (at + 1) ss (omega (arith, l.long)) in
      place (take (at + 1) ss ++ (d ∷ [])) (at + 1 - suc j) (at - j) (omega arith)
      ∙ get_or_append_left (take (at + 1) ss) (d ∷ []) empty (at - j) (omega arith)
      ∙ get_or-take (at + 1) ss (at - j) empty (omega arith)
      ∙ l.back j (omega arith)

  keep_ahead : (e : Edit F) (d : Rows F) → d ≡ edited e (stood st) → (i : ℕ) → i ≤ 0 → get_or (take (at + 1) ss ++ (d ∷ [])) (at + 1 + i) empty ≡ onward (take i []) (stood (e ∷ st))
  keep_ahead e d is zero h = place (take (at + 1) ss ++ (d ∷ [])) (at + 1 + 0) (at + 1 - 0) (omega arith) ∙ keep_back e d is 0 (omega arith)
  keep_ahead e d is (suc j) h = absurd (omega arith)

  pub lined_keep : (e : Edit F) (d : Rows F) → d ≡ edited e (stood st) → Lined (take (at + 1) ss ++ (d ∷ [])) (at + 1) (e ∷ st) []
  lined_keep e d is = record {
    long = length_push (take (at + 1) ss) d ∙ (let full : length (take (at + 1) ss) ≡ at + 1 = length-take-le (at + 1) ss (omega (arith, l.long)) in omega arith);
    deep = omega (arith, l.deep);
    back = keep_back e d is;
    ahead = keep_ahead e d is;
  }

  pub lined_forget : (m : ℕ) → m + 1 ≡ at → Lined (drop 1 ss) m st wt
  lined_forget m is = record {
    long = length-drop 1 ss ∙ omega (arith, l.long);
    deep = omega (arith, l.deep);
    back = λ i h. get_or-drop 1 ss (m - i) empty ∙ place ss (1 + (m - i)) (at - i) (omega arith) ∙ l.back i (omega arith);
    ahead = λ i h. get_or-drop 1 ss (m + i) empty ∙ place ss (1 + (m + i)) (at + i) (omega arith) ∙ l.ahead i h;
  }

module _ {F : Type 0} (ss : List (Rows F)) (at m : ℕ) (e : Edit F) (st wt : List (Edit F)) (is : m + 1 ≡ at) where
  undo_ahead : Lined ss at (e ∷ st) wt → (i : ℕ) → i ≤ suc (length wt) → get_or ss (m + i) empty ≡ onward (take i (e ∷ wt)) (stood st)
  undo_ahead l zero h = place ss (m + 0) (at - 1) (omega arith) ∙ l.back 1 (omega arith)
  undo_ahead l (suc j) h = place ss (m + suc j) (at + j) (omega arith) ∙ l.ahead j (omega arith)

  pub lined_undo : Lined ss at (e ∷ st) wt → Lined ss m st (e ∷ wt)
  lined_undo l = record {
    long = l.long ∙ omega arith;
    deep = omega (arith, l.deep);
    back = λ i h. place ss (m - i) (at - suc i) (omega arith) ∙ l.back (suc i) (omega arith);
    ahead = undo_ahead l;
  }

  redo_back : Lined ss m st (e ∷ wt) → (i : ℕ) → i ≤ at → get_or ss (at - i) empty ≡ stood (drop i (e ∷ st))
  redo_back l zero h = place ss (at - 0) (m + 1) (omega arith) ∙ l.ahead 1 (omega arith)
  redo_back l (suc j) h = place ss (at - suc j) (m - j) (omega arith) ∙ l.back j (omega arith)

  pub lined_redo : Lined ss m st (e ∷ wt) → Lined ss at (e ∷ st) wt
  lined_redo l = record {
    long = l.long ∙ omega arith;
    deep = omega (arith, l.deep);
    back = redo_back l;
    ahead = λ i h. place ss (at + i) (m + suc i) (omega arith) ∙ l.ahead (suc i) (omega arith);
  }

none_stays : {F : Type 0} (o : Option (Edit F)) (f g : Edit F → Rows F) → option_map f o ≡ None → ◌≡◌ {A = Option (Rows F)} None (option_map g o)
none_stays None f g e = refl
none_stays (Some x) f g e = absurd (none-some (f x) (sym e))

-- What lasts from call to call.
pub record Paired {F : Type 0} (p : Plain F) (v : View F) : Type 0 where
  pub lined : Lined v.states v.at p.standing p.waiting
  pub few : length v.states ≤ 16
  pub pasts : v.at ≡ p.past
  pub draft : v.draft ≡ plain.draft p

pub record Inv {F : Type 0} (p : Plain F) (v : View F) : Type 0 where
  pub started : v.started ≡ p.started
  pub paired : v.started ≡ true → Paired p v

did_keep : {F : Type 0} (p : Plain F) (v : View F) (d : Rows F) (w : View F) (o : Option (Edit F)) → Some d ≡ option_map (λ e. edited e (plain.current p)) o → Inv p v → Paired p v → Keeps v d w → Inv (kept p o) w
did_keep p v d w None is h q k = absurd (none-some d (sym is))
did_keep p v d w (Some e) is h q (room r) =
    let l = lined_keep v.states v.at p.standing p.waiting q.lined e d (same_Some _ _ is) in
    record {
      started = h.started;
      paired = λ _. record { lined = l; few = omega (arith, l.long, q.pasts); pasts = omega (arith, q.pasts); draft = refl };
    }
did_keep p v d w (Some e) is h q (full r) =
    let l = lined_keep v.states v.at p.standing p.waiting q.lined e d (same_Some _ _ is) in
    let m = lined_forget (pushed v d) (v.at + 1) (e ∷ p.standing) [] l v.at refl in
    record {
      started = h.started;
      paired = λ _. record { lined = m; few = omega (arith, m.long); pasts = omega (arith, q.pasts); draft = refl };
    }

did_step : {F : Type 0} (p : Plain F) (x : Step F) (d : Rows F) (o : Option (Edit F)) → Some d ≡ option_map (λ e. edited e (plain.current p)) o → ◌≡◌ {A = Option (Rows F)} (Some (apply x d)) (option_map (λ e. edited e (plain.current p)) (option_map (λ e. e ++ (x ∷ [])) o))
did_step p x d None is = absurd (none-some d (sym is))
did_step p x d (Some e) is = ap (λ r. Some (apply x r)) (same_Some _ _ is) ∙ ap Some (sym (edited_push e x (plain.current p)))

did_undo : {F : Type 0} (p : Plain F) (v : View F) (st : List (Edit F)) → p.standing ≡ st → v.draft ≡ None → 0 < v.at → Inv p v → Paired p v → Inv (undone p st) (with_states v v.states (v.at - 1))
did_undo p v [] is idle pos h q = let z : length p.standing ≡ 0 = ap length is in absurd (omega (arith, q.lined.deep))
did_undo p v (e ∷ st) is idle pos h q =
    record {
      started = h.started;
      paired = λ _. record {
        lined = lined_undo v.states v.at (v.at - 1) e st p.waiting (omega arith) (subst (λ s. Lined v.states v.at s p.waiting) is q.lined);
        few = q.few;
        pasts = omega (arith, q.pasts);
        draft = none_stays p.editing (λ x. edited x (plain.current p)) (λ x. edited x (stood st)) (sym q.draft ∙ idle);
      };
    }

did_redo : {F : Type 0} (p : Plain F) (v : View F) (wt : List (Edit F)) → p.waiting ≡ wt → v.draft ≡ None → v.at + 1 < length v.states → Inv p v → Paired p v → Inv (redone p wt) (with_states v v.states (v.at + 1))
did_redo p v [] is idle more_to h q = let z : length p.waiting ≡ 0 = ap length is in absurd (omega (arith, q.lined.long))
did_redo p v (e ∷ wt) is idle more_to h q =
    record {
      started = h.started;
      paired = λ _. record {
        lined = lined_redo v.states (v.at + 1) v.at e p.standing wt refl (subst (λ s. Lined v.states v.at p.standing s) is q.lined);
        few = q.few;
        pasts = omega (arith, q.pasts, q.few);
        draft = none_stays p.editing (λ x. edited x (plain.current p)) (λ x. edited x (edited e (plain.current p))) (sym q.draft ∙ idle);
      };
    }

-- A call that is done keeps the two together.
pub does : {F : Type 0} (c : Call F) (p : Plain F) (v w : View F) → Inv p v → Does c v w → Inv (did c p) w
does start p v w h d = subst (Inv (did start p)) (sym d.1) (record {
  started = refl;
  paired = λ _. record { lined = lined_start; few = omega arith; pasts = refl; draft = refl };
})
does begin p v w h d =
    let q = h.paired d.0.0 in
    subst (Inv (did begin p)) (sym d.1) (record {
      started = h.started;
      paired = λ _. record {
        lined = q.lined;
        few = q.few;
        pasts = q.pasts;
        draft = ap Some (place v.states v.at (v.at - 0) (omega arith) ∙ q.lined.back 0 (omega arith));
      };
    })
does (step x) p v w h d =
    let q = h.paired d.1.0 in
    subst (Inv (did (step x) p)) (sym d.2) (record {
      started = h.started;
      paired = λ _. record {
        lined = q.lined;
        few = q.few;
        pasts = q.pasts;
        draft = did_step p x d.0 p.editing (sym d.1.1 ∙ q.draft);
      };
    })
does keep p v w h d = let q = h.paired d.1.0 in did_keep p v d.0 w p.editing (sym d.1.1 ∙ q.draft) h q d.2
does withdraw p v w h d =
    let q = h.paired d.1.0 in
    subst (Inv (did withdraw p)) (sym d.2) (record {
      started = h.started;
      paired = λ _. record { lined = q.lined; few = q.few; pasts = q.pasts; draft = refl };
    })
does undo p v w h d = subst (Inv (did undo p)) (sym d.2) (did_undo p v p.standing refl d.0.1 d.1 h (h.paired d.0.0))
does redo p v w h d = subst (Inv (did redo p)) (sym d.2) (did_redo p v p.waiting refl d.0.1 d.1 h (h.paired d.0.0))
does forget p v w h d =
    let q = h.paired d.0.0 in
    let l = lined_forget v.states v.at p.standing p.waiting q.lined (v.at - 1) (omega (arith, d.1)) in
    subst (Inv (did forget p)) (sym d.2) (record {
      started = h.started;
      paired = λ _. record { lined = l; few = omega (arith, l.long, q.lined.long, q.few, d.1); pasts = omega (arith, q.pasts); draft = sym d.0.1 ∙ q.draft };
    })
does rearm p v w h d = subst (Inv p) (sym d) h
does (read r from buffer) p v w h d = subst (Inv p) (sym d.2) h

moves : {F : Type 0} (b : Bool) (c : Call F) (p : Plain F) (v w : View F) → Inv p v → Moves b c v w → Inv (told b c p) w
moves true c p v w h d = does c p v w h d
moves false c p v w h d = subst (Inv p) (sym d) h

pub fed_push : {F : Type 0} (p : Plain F) (log : List (Event F)) (e : Event F) → fed p (log ++ (e ∷ [])) ≡ advance e (fed p log)
fed_push p [] e = refl
fed_push p (x ∷ log) e = fed_push (advance x p) log e

pub sits : {F : Type 0} {log : List (Event F)} {v : View F} → Sitting log v → Inv (plain.plain log) v
sits (none {v = v} off) = record { started = off; paired = λ on. absurd (false≢true (sym off ∙ on)) }
sits (more {log = log} {v = v} {w = w} s e f) = subst (λ p. Inv p w) (sym (fed_push unstarted log e)) (moves e.done e.call (plain.plain log) v w (sits s) f)

pub shown : {F : Type 0} (p : Plain F) (v : View F) → Inv p v → Agrees p v
shown p v h = record {
  started = h.started;
  shows = λ on. let q = h.paired on in record {
    pasts = q.pasts;
    futures = q.lined.long;
    current = place v.states v.at (v.at - 0) (omega arith) ∙ q.lined.back 0 (omega arith);
    draft = q.draft;
    past = q.lined.back;
    future = q.lined.ahead;
  };
}

-- what is read is what the plain-list editor shows
read_shown : {F : Type 0} (p : Plain F) (v : View F) → Agrees p v → v.started ≡ true → views.shown v ≡ plain.shown p
read_shown p v a on =
    let s = a.shows on in
    ap (λ d. unwrap_or d (views.now_at v)) s.draft ∙ ap (unwrap_or (plain.draft p)) s.current

filled : {F : Type 0} (p : Plain F) (v w : View F) → Agrees p v → (c : Call F) → Does c v w → Filled p c
filled p v w a start d = tt
filled p v w a begin d = tt
filled p v w a (step x) d = tt
filled p v w a keep d = tt
filled p v w a withdraw d = tt
filled p v w a undo d = tt
filled p v w a redo d = tt
filled p v w a forget d = tt
filled p v w a rearm d = tt
filled p v w a (read r from buffer) d = d.1 ∙ ap (λ rows. take (length buffer) (drop from (plain.row rows r))) (read_shown p v a d.0)

pub history_law : (F : Type 0) → HistoryLaw F
history_law F log v s =
    let a = shown (plain.plain log) v (sits s) in
    (a, λ c w f. filled (plain.plain log) v w a c f)
