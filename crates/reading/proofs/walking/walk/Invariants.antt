use Rattle.std.proofs.Common.{◌≡◌, ◌+◌, ◌<◌, ◌≤◌, length}
use Rattle.reading.specs.Walks.{AllTied, joined}
use Rattle.reading.proofs.Walk.{Walk}
use Rattle.reading.proofs.walking.walk.Given as goal

abbrev pub invariant-loop-part : goal.invariant-loop-part
invariant-loop-part g l =
    let m = g.S.Store.meaning l.initial.store in
    let p = g.P.Part in
    (l.done ≤ length l.initial.buffer) × (g.S.Store.meaning l.store ≡ m)
    × (AllTied p m l.parts → l.start + length l.initial.buffer ≤ length (joined p m l.parts) →
    Walk (p.frames m) l.parts l.start l.initial.buffer l.part-index l.skip l.done l.buffer
    × (0 < l.done → p.serves m))
