use Rattle.std.proofs.Common.{◌<◌, false, length, vec_items, ap, arith, rules}
use Rattle.std.proofs.lemmas.Grind.{common_steps}
use Rattle.stores.proofs.Refusals.{put_done}
use Rattle.slot_stores.specs.Memory.{memory}
use Rattle.slot_stores.proofs.Told.{put_told}
use Rattle.slot_stores.proofs.InMemory.{few, fits, place_slot, slot_filled}
use Rattle.slot_stores.proofs.memory.store.MemoryStoreStore.put.Goals as goal

pub returns-in_err-number-clause-promised : goal.returns-in_err-number-clause-promised
returns-in_err-number-clause-promised g c =
    put_told (memory c.args.self.now) c.args.frames.now _ c.from_residual.result c.in_err-number.ensures c.from_residual.ensures.1

pub slot_start-at-requires : goal.slot_start-at-requires
slot_start-at-requires g c = (place_slot c.args.self.now (length c.args.frames.now) _ c.in_ok-number.ensures).0

pub bounds-self-number : goal.bounds-self-number
bounds-self-number g c =
    let s = c.args.self.now in
    let p = place_slot s (length c.args.frames.now) _ c.in_ok-number.ensures in
    omega (arith, few s)

pub returns-clause-frames : goal.returns-clause-frames
returns-clause-frames g c = grind (arith, common_steps)

pub returns-clause-promised : goal.returns-clause-promised
returns-clause-promised g c =
    let s = c.args.self.now in
    let b = c.args.frames.now in
    let p = place_slot s (length b) _ c.in_ok-number.ensures in
    let small = few s in
    let lt : c.in_ok-number.number < length s.lengths = search rules in
    put_done (memory s) b _ _ c.in_ok-number.ensures
    (ap (λ bs. record { limit = s.limit; ailing = false; blocks = bs })
    (slot_filled (vec_items s.frames) s.limit s.slots s.lengths _ b _ p.0 lt (fits s) s.sized p.1 (returns-clause-frames g c)))
