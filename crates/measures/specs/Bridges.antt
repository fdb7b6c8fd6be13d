-- Stretches join associatively, and the empty one changes nothing. Assumes nothing.
use Rattle.std.specs.Prelude.{◌≡◌, ℕ, ◌+◌, ◌^◌, ◌<◌, ◌≤◌, max, cond, ◌==◌, refl}
use Rattle.std.proofs.Common.{sym, ap, subst, ◌∙◌, ⊎_elim, le_antisymm, arith}
use mathlib.Core.HLevel.{→_prop, ×_prop, ×₃_prop}
use Rattle.std.proofs.Math.Bridge.{le_prop}
use Rattle.std.proofs.lemmas.Bool.{cond-true, cond-false, cond_both, lt-ltb, le-ltb, cases_lt, eqb-true, eq-eqb, ne_eqb}
use Rattle.std.proofs.lemmas.Bool.Decides.{nat_tests}
use Rattle.measures.specs.Runs.{Sound, Run, run, SoundRun, after, capped, longest}
use Rattle.measures.specs.ClipRuns.{run_of, clip_run_from}
use Rattle.measures.specs.declared.clip_run.ClipRun.{ClipRun}

sound_prop : (c h t b : ℕ) → IsProp (Sound c h t b)
sound_prop c h t b = ×₃_prop (×₃_prop le_prop le_prop le_prop) (→_prop (×_prop le_prop le_prop)) le_prop

-- a value is known by its numbers
pub same_clip_run : (x y : ClipRun) → run_of x ≡ run_of y → x ≡ y
same_clip_run x y e =
    subst (λ (r : Run). (s : SoundRun r) → x ≡ clip_run_from r s) e (λ s. ap (clip_run_from (run_of x)) (sound_prop _ _ _ _ x.sound s)) y.sound

pub run_path : {c h t b c' h' t' b' : ℕ} → c ≡ c' → h ≡ h' → t ≡ t' → b ≡ b' → run c h t b ≡ run c' h' t' b'
run_path p q r s = cc

pub capped_over : (r : Run) → 2 ^ 30 < r.count → capped r ≡ longest
capped_over r h = cond-true _ _ _ (lt-ltb (2 ^ 30) r.count h)

pub capped_in : (r : Run) → r.count ≤ 2 ^ 30 → capped r ≡ r
capped_in r h = cond-false _ _ _ (le-ltb (2 ^ 30) r.count h)

zero_run : (z : Run) → SoundRun z → z.count ≤ 0 → run 0 0 0 0 ≡ z
zero_run z s e = run_path (omega arith) (omega arith) (omega arith) (omega arith)

longest_left : (z : Run) → SoundRun z → capped (after longest z) ≡ longest
longest_left z s =
    ⊎_elim (λ more. capped_over (after longest z) (omega arith)) (λ none. subst (λ r. capped (after longest r) ≡ longest) (zero_run z s none) refl) (cases_lt 0 z.count)

longest_right : (x : Run) → SoundRun x → capped (after x longest) ≡ longest
longest_right x s =
    ⊎_elim (λ more. capped_over (after x longest) (omega arith)) (λ none. subst (λ r. capped (after r longest) ≡ longest) (zero_run x s none) refl) (cases_lt 0 x.count)

-- the head of three stretches; read from the end, the tail
head_assoc : (xc xh yc yh zh : ℕ) → xh ≤ xc → yh ≤ yc → cond (cond (xh == xc) (xc + yh) xh == xc + yc) ((xc + yc) + zh) (cond (xh == xc) (xc + yh) xh) ≡ cond (xh == xc) (xc + cond (yh == yc) (yc + zh) yh) xh
head_assoc xc xh yc yh zh p q = grind (arith, nat_tests)

tail_assoc : (xt yc yt zc zt : ℕ) → zt ≤ zc → yt ≤ yc → cond (zt == zc) (zc + cond (yt == yc) (yc + xt) yt) zt ≡ cond (cond (zt == zc) (zc + yt) zt == yc + zc) ((yc + zc) + xt) (cond (zt == zc) (zc + yt) zt)
tail_assoc xt yc yt zc zt p q = grind (arith, nat_tests)

-- the largest of five numbers, in two orders; one `omega` for both would split more than it may
left_le : (a b c p q r : ℕ) → a ≤ r → b ≤ r → c ≤ r → p ≤ r → q ≤ r → max (max (max (max a b) p) c) q ≤ r
left_le a b c p q r f g h i j = omega arith

right_le : (a b c p q r : ℕ) → a ≤ r → b ≤ r → c ≤ r → p ≤ r → q ≤ r → max (max a (max (max b c) q)) p ≤ r
right_le a b c p q r f g h i j = omega arith

regrouped : (a b c p q : ℕ) → max (max (max (max a b) p) c) q ≡ max (max a (max (max b c) q)) p
regrouped a b c p q =
    le_antisymm
    (left_le a b c p q _ (omega arith) (omega arith) (omega arith) (omega arith) (omega arith))
    (right_le a b c p q _ (omega arith) (omega arith) (omega arith) (omega arith) (omega arith))

bridge_left : (a b c t h n k : ℕ) → b ≤ n → h ≤ n → max (max (max (max a b) (t + h)) c) (n + t + k) ≡ max (max a c) (t + n + k)
bridge_left a b c t h n k p q = omega arith

bridge_right : (a b c t h n k : ℕ) → b ≤ n → h ≤ n → max (max a (max (max b c) (h + k))) (t + (n + k)) ≡ max (max a c) (t + n + k)
bridge_right a b c t h n k p q = omega arith

best_assoc : (x y z : Run) → SoundRun x → SoundRun y → SoundRun z → (after (after x y) z).best ≡ (after x (after y z)).best
best_assoc x y z s t u =
    ⊎_elim
    (λ part.
    let a : cond (y.tail == y.count) (y.count + x.tail) y.tail ≡ y.tail = cond-false _ _ _ (ne_eqb y.tail y.count (λ e. omega arith)) in
    let b : cond (y.head == y.count) (y.count + z.head) y.head ≡ y.head = cond-false _ _ _ (ne_eqb y.head y.count (λ e. omega arith)) in
    ap (λ n. max (max (max (max x.best y.best) (x.tail + y.head)) z.best) (n + z.head)) a
    ∙ regrouped x.best y.best z.best (x.tail + y.head) (y.tail + z.head)
    ∙ sym (ap (λ n. max (max x.best (max (max y.best z.best) (y.tail + z.head))) (x.tail + n)) b))
    (λ whole.
    let w = t.1 whole in
    let a : cond (y.tail == y.count) (y.count + x.tail) y.tail ≡ y.count + x.tail = cond-true _ _ _ (eq-eqb y.tail y.count (omega arith)) in
    let b : cond (y.head == y.count) (y.count + z.head) y.head ≡ y.count + z.head = cond-true _ _ _ (eq-eqb y.head y.count (omega arith)) in
    ap (λ n. max (max (max (max x.best y.best) (x.tail + y.head)) z.best) (n + z.head)) a
    ∙ bridge_left x.best y.best z.best x.tail y.head y.count z.head (omega arith) (omega arith)
    ∙ sym (bridge_right x.best y.best z.best x.tail y.tail y.count z.head (omega arith) (omega arith))
    ∙ sym (ap (λ n. max (max x.best (max (max y.best z.best) (y.tail + z.head))) (x.tail + n)) b))
    (cases_lt y.best y.count)

plain_assoc : (x y z : Run) → SoundRun x → SoundRun y → SoundRun z → after (after x y) z ≡ after x (after y z)
plain_assoc x y z s t u =
    run_path (omega arith)
    (head_assoc x.count x.head y.count y.head z.head (omega arith) (omega arith))
    (tail_assoc x.tail y.count y.tail z.count z.tail (omega arith) (omega arith))
    (best_assoc x y z s t u)

pub capped_assoc : (x y z : Run) → SoundRun x → SoundRun y → SoundRun z → capped (after (capped (after x y)) z) ≡ capped (after x (capped (after y z)))
capped_assoc x y z s t u =
    ⊎_elim
    (λ over. ap (λ r. capped (after r z)) (capped_over (after x y) over) ∙ longest_left z u ∙ sym
    (⊎_elim
    (λ far. ap (λ r. capped (after x r)) (capped_over (after y z) far) ∙ longest_right x s)
    (λ near. ap (λ r. capped (after x r)) (capped_in (after y z) near) ∙ capped_over (after x (after y z)) (omega arith))
    (cases_lt (2 ^ 30) (y.count + z.count))))
    (λ fits. ap (λ r. capped (after r z)) (capped_in (after x y) fits) ∙
    (⊎_elim
    (λ far. capped_over (after (after x y) z) (omega arith) ∙ sym (ap (λ r. capped (after x r)) (capped_over (after y z) far) ∙ longest_right x s))
    (λ near. ap capped (plain_assoc x y z s t u) ∙ sym (ap (λ r. capped (after x r)) (capped_in (after y z) near)))
    (cases_lt (2 ^ 30) (y.count + z.count))))
    (cases_lt (2 ^ 30) (x.count + y.count))

pub empty_left : (x : Run) → SoundRun x → capped (after (run 0 0 0 0) x) ≡ x
empty_left x s =
    capped_in (after (run 0 0 0 0) x) (omega arith)
    ∙ run_path (omega arith) (omega arith)
    (cond_both (x.tail == x.count) (x.count + 0) x.tail (λ t. t ≡ x.tail) (λ e. omega (arith, eqb-true x.tail x.count e)) (λ e. refl))
    (omega arith)

pub empty_right : (x : Run) → SoundRun x → capped (after x (run 0 0 0 0)) ≡ x
empty_right x s =
    capped_in (after x (run 0 0 0 0)) (omega arith)
    ∙ run_path (omega arith)
    (cond_both (x.head == x.count) (x.count + 0) x.head (λ t. t ≡ x.head) (λ e. omega (arith, eqb-true x.head x.count e)) (λ e. refl))
    (omega arith)
    (omega arith)
