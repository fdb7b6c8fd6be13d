use Rattle.std.proofs.Common.{ℕ, ◌*◌, false, [], take, drop, replicate, vec_items, ap, ◌∙◌, arith}
use Rattle.slot_stores.specs.Slots.{count_of_slots, numbered}
use Rattle.slot_stores.specs.Memory.{slot_frames}
use Rattle.slot_stores.proofs.Numbered.{equals_at, numbered_same}
use Rattle.slot_stores.proofs.memory.MemoryStore.new.Goals as goal

pub invariant_of-result-clause-sized : goal.invariant_of-result-clause-sized
invariant_of-result-clause-sized g c = λ n. omega (arith, equals_at {X = ℕ} 1024 n 0)

pub returns-clause-meaning : goal.returns-clause-meaning
returns-clause-meaning g c =
    let limit = c.args.limit in
    let held = slot_frames (vec_items c.args.frames) limit (replicate 1024 0) in
    ap (λ bs. record { limit = limit; ailing = false; blocks = bs })
    (ap (numbered held) (c.slot_count-slots.ensures ∙ ap (count_of_slots limit limit) c.len.ensures) ∙
    numbered_same held _ [] (λ k h. ap (λ n. take n (drop (k * limit) (vec_items c.args.frames))) (equals_at {X = ℕ} 1024 k 0)))
