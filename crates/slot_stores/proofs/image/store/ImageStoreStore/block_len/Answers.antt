use Rattle.std.proofs.Common.{◌≡◌, ◌+◌, ◌-◌, ◌<◌, ◌≤◌, length, take, drop, vec_items, sym, ap, ◌∙◌, subst, arith}
use Rattle.slot_stores.specs.Image.{length_in_slot, slot_bytes}
use Rattle.slot_stores.proofs.InImage.{block_none, block_long}
use Rattle.slot_stores.proofs.image.store.ImageStoreStore.block_len.Goals as goal

pub returns-then-number-slots : goal.returns-then-number-slots
returns-then-number-slots g c =
    let s = c.args.self.now in
    sym (ap length (block_none g.K.Frame.wide g.K.Frame.decoded s.limit (vec_items s.bytes) c.args.number (subst (λ n. n ≤ c.args.number) c.slots.ensures c.if-number-slots.true)))

pub returns : goal.returns
returns g c =
    let s = c.args.self.now in
    let n = c.args.number in
    let at = c.slot_start-at.result in
    let size = slot_bytes g.K.Frame.wide s.limit in
    let lt = subst (λ k. n < k) c.slots.ensures c.if-number-slots.false in
    let same : at + c.slot_size.result - at ≡ size = omega (arith, c.slot_size.ensures) in
    c.block_length.ensures ∙
    ap (length_in_slot s.limit) (
    ap (λ m. take m (drop at c.deref.result.now)) same ∙ ap (λ l. take size (drop at l)) c.deref.ensures.value ∙
    ap (λ k. take size (drop k (vec_items s.bytes))) c.slot_start-at.ensures.value) ∙
    sym (block_long g.K.Frame.wide g.K.Frame.decoded s.limit (vec_items s.bytes) n lt)
