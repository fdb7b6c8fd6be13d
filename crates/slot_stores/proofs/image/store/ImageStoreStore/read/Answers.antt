use Rattle.std.proofs.Common.{◌≡◌, ◌+◌, ◌-◌, ◌*◌, ◌≤◌, length, take, drop, vec_items, vec_len, sym, refl, ap, ◌∙◌, subst, arith, rules}
use Rattle.slot_stores.specs.Image.{decoded}
use Rattle.slot_stores.specs.InImage.{image}
use Rattle.slot_stores.proofs.Told.{read_told}
use Rattle.slot_stores.proofs.InImage.{taken_slot, part_room, frames_read}
use Rattle.slot_stores.proofs.image.store.ImageStoreStore.read.Goals as goal
use Rattle.slot_stores.proofs.image.store.ImageStoreStore.read.Given as given
use Rattle.slot_stores.proofs.image.store.ImageStoreStore.read.Goals.{After-slot_start}

pub slot_start-requires : goal.slot_start-requires
slot_start-requires g c =
    let s = c.args.self.now in
    let p = read_told (image g.K.Frame s) c.args.number c.args.offset (length c.args.buffer.now) _ _ _ c.check_read.ensures c.map_err.ensures.variant c.in_ok-map_err.was in
    taken_slot g.K.Frame.wide g.K.Frame.decoded s.limit (vec_items s.bytes) c.args.number p.1

room : (g : given.Over) (c : After-slot_start g)
    → c.slot_start.result + 6 + c.args.offset * c.width-width.result + length c.args.buffer.now * c.width-width.result ≤ vec_len c.args.self.now.bytes
room g c =
    let s = c.args.self.now in
    let n = c.args.number in
    let o = c.args.offset in
    let k = length c.args.buffer.now in
    let p = read_told (image g.K.Frame s) n o k _ _ _ c.check_read.ensures c.map_err.ensures.variant c.in_ok-map_err.was in
    let part = part_room g.K.Frame.wide g.K.Frame.decoded s.limit (vec_items s.bytes) n o k p.1 p.2 in
    subst (λ u. c.slot_start.result + 6 + o * u + k * u ≤ vec_len s.bytes) (sym c.width-width.ensures) (omega (arith, part, c.slot_start.ensures.within))

pub overflow_mul-at : goal.overflow_mul-at
overflow_mul-at g c = let h = room g c in search rules

pub overflow_add-at-2 : goal.overflow_add-at-2
overflow_add-at-2 g c = let h = room g c in search rules

pub overflow_mul-end : goal.overflow_mul-end
overflow_mul-end g c = let h = room g c in search rules

pub overflow_add-end : goal.overflow_add-end
overflow_add-end g c = let h = room g c in search rules

pub slice_bounds-read_frames-end : goal.slice_bounds-read_frames-end
slice_bounds-read_frames-end g c = let h = room g (goal.at.slice_bounds-read_frames-end g c).After-slot_start in search rules

pub returns-clause-promised : goal.returns-clause-promised
returns-clause-promised g c =
    let s = c.args.self.now in
    let n = c.args.number in
    let o = c.args.offset in
    let k = length c.args.buffer.now in
    let w = g.K.Frame.wide in
    let dec = g.K.Frame.decoded in
    let xs = vec_items s.bytes in
    let u = c.width-width.result in
    let at = c.slot_start.result + 6 + o * u in
    let p = read_told (image g.K.Frame s) n o k _ _ _ c.check_read.ensures c.map_err.ensures.variant c.in_ok-map_err.was in
    let same : at + k * u - at ≡ k * u = omega arith in (
      p.0,
      c.read_frames.ensures ∙
          ap (decoded w dec k) (
          ap (λ m. take m (drop at c.deref.result.now)) same ∙ ap (λ l. take (k * u) (drop at l)) c.deref.ensures.value ∙
          ap (λ v. take (k * v) (drop (c.slot_start.result + 6 + o * v) xs)) c.width-width.ensures ∙ ap (λ v. take (k * w) (drop (v + 6 + o * w) xs)) c.slot_start.ensures.value) ∙
          frames_read w dec s.limit xs n o k p.1 p.2,
      refl,
    )
