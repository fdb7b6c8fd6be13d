use Rattle.std.proofs.Common.{◌<◌, length, vec_items, ap, arith, rules, ◌≢◌, false}
use Rattle.stores.specs.Meaning.{block}
use Rattle.slot_stores.specs.Memory.{memory}
use Rattle.slot_stores.proofs.InMemory.{few, taken, slot_freed}
use Rattle.slot_stores.proofs.memory.store.MemoryStoreStore.release.Goals as goal

pub offset_bounds-self-number : goal.offset_bounds-self-number
offset_bounds-self-number g c = let h = taken c.args.self.now c.args.number (λ e. omega (arith, c.in_ok-check_release.ensures, e)) in let k = few c.args.self.now in search rules

pub bounds-self-number : goal.bounds-self-number
bounds-self-number g c = omega (arith, taken c.args.self.now c.args.number (λ e. omega (arith, c.in_ok-check_release.ensures, e)), few c.args.self.now)

pub returns-clause-promised : goal.returns-clause-promised
returns-clause-promised g c =
    let s = c.args.self.now in
    let n = c.args.number in
    let some : length (block (memory s) n) ≢ 0 = λ e. omega (arith, c.in_ok-check_release.ensures, e) in
    let h = taken s n some in
    let small = few s in
    let lt : n < length s.lengths = search rules in
    (c.in_ok-check_release.ensures, ap (λ bs. record { limit = s.limit; ailing = false; blocks = bs }) (slot_freed (vec_items s.frames) s.limit s.slots s.lengths n h lt))
