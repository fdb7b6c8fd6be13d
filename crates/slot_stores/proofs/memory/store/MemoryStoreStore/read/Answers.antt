use Rattle.std.proofs.Common.{◌≡◌, ◌+◌, ◌-◌, ◌≤◌, length, take, drop, vec_items, refl, ap, ◌∙◌, arith, rules}
use Rattle.slot_stores.specs.Memory.{memory}
use Rattle.slot_stores.proofs.Told.{read_told}
use Rattle.slot_stores.proofs.InMemory.{taken, part_room, part_is}
use Rattle.slot_stores.proofs.memory.store.MemoryStoreStore.read.Goals as goal
use Rattle.slot_stores.proofs.memory.store.MemoryStoreStore.read.Given as given
use Rattle.slot_stores.proofs.memory.store.MemoryStoreStore.read.Goals.{After-slot_start}

pub slot_start-requires : goal.slot_start-requires
slot_start-requires g c =
    let p = read_told (memory c.args.self.now) c.args.number c.args.offset (length c.args.buffer.now) _ _ _ c.check_read.ensures c.map_err.ensures.variant c.in_ok-map_err.was in
    taken c.args.self.now c.args.number p.1

room : (g : given.Over) (c : After-slot_start g) → c.args.offset + length c.args.buffer.now ≤ c.args.self.now.limit
room g c =
    let p = read_told (memory c.args.self.now) c.args.number c.args.offset (length c.args.buffer.now) _ _ _ c.check_read.ensures c.map_err.ensures.variant c.in_ok-map_err.was in
    part_room c.args.self.now c.args.number c.args.offset (length c.args.buffer.now) p.1 p.2

pub overflow_add-at : goal.overflow_add-at
overflow_add-at g c = let h = room g c in search rules

pub overflow_add-at-2 : goal.overflow_add-at-2
overflow_add-at-2 g c = let h = room g (goal.at.overflow_add-at-2 g c).After-slot_start in search rules

pub offset_bounds-deref-at : goal.offset_bounds-deref-at
offset_bounds-deref-at g c = let h = room g (goal.at.offset_bounds-deref-at g c).After-slot_start in search rules

pub slice_bounds-copy_from_slice-end : goal.slice_bounds-copy_from_slice-end
slice_bounds-copy_from_slice-end g c = let h = room g (goal.at.slice_bounds-copy_from_slice-end g c).After-slot_start in search rules

pub returns-clause-promised : goal.returns-clause-promised
returns-clause-promised g c =
    let s = c.args.self.now in
    let n = c.args.number in
    let o = c.args.offset in
    let k = length c.args.buffer.now in
    let at = c.slot_start.result + o in
    let p = read_told (memory s) n o k _ _ _ c.check_read.ensures c.map_err.ensures.variant c.in_ok-map_err.was in
    let same : at + k - at ≡ k = omega arith in (
      p.0,
      c.copy_from_slice.ensures.after ∙ ap (λ m. take m (drop at c.deref.result.now)) same ∙ ap (λ l. take k (drop at l)) c.deref.ensures.value ∙
          ap (λ v. take k (drop (v + o) (vec_items s.frames))) c.slot_start.ensures.value ∙ part_is s n o k p.1 p.2,
      refl,
    )
