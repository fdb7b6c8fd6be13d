use Rattle.std.proofs.Common.{◌≡◌, ◌+◌, ◌-◌, ◌*◌, ◌<◌, vec_items, sym, refl, ap, ◌∙◌, subst, add-one, arith, rules}
use lib.Seq.{paste}
use Rattle.slot_stores.specs.Image.{cleared, imaged, image_slots, no_length, slot_bytes}
use Rattle.slot_stores.proofs.Pasted.{written_over}
use Rattle.slot_stores.proofs.Cleared.{cleared_slots, image_empty}
use Rattle.slot_stores.proofs.image.ImageStore.new.Goals as goal

pub slot_start-at-requires : goal.slot_start-at-requires
slot_start-at-requires g c =
    let w = g.K.Frame.wide in
    let xs = vec_items c.args.bytes in
    let i = c.loop-number.number in
    let lt = subst (λ n. i < n) c.loop-number.invariant.end c.loop-number-test.true in
    let same = ap (λ l. image_slots w l (vec_items c.loop-number.store.bytes)) c.loop-number.invariant.limit ∙ ap (image_slots w c.args.limit) c.loop-number.invariant.bytes in
    subst (λ n. i < n) (sym (same ∙ cleared_slots w c.args.limit xs i (omega (arith, lt)))) lt

pub loop-number-preserved : goal.loop-number-preserved
loop-number-preserved g c =
    let xs = vec_items c.args.bytes in
    let i = c.loop-number.number in
    let size = slot_bytes g.K.Frame.wide c.args.limit in
    let at = c.slot_start-at.result in
    let eq : at ≡ i * size = c.slot_start-at.ensures.value ∙ ap (λ l. i * slot_bytes g.K.Frame.wide l) c.loop-number.invariant.limit in
    let zeros : c.copy_from_slice.new.self ≡ no_length = search rules in
    record {
      limit = c.loop-number.invariant.limit;
      end = c.loop-number.invariant.end;
      bytes = written_over c.loop-number.store.bytes at (at + 4 - at) 4 c.deref_mut.result.now c.copy_from_slice.new.self no_length c.deref_mut.ensures.value c.deref_mut.ensures.len zeros (omega arith) refl (omega (arith, c.slot_start-at.ensures.within)) ∙
          ap (λ l. paste l at no_length 4) c.loop-number.invariant.bytes ∙ ap (λ k. paste (cleared xs size i) k no_length 4) eq ∙ ap (cleared xs size) (sym (add-one i));
    }

pub returns-clause-meaning : goal.returns-clause-meaning
returns-clause-meaning g c =
    let w = g.K.Frame.wide in
    let limit = c.args.limit in
    let xs = vec_items c.args.bytes in
    let done : c.loop-number.number ≡ c.slots-number-end.result = omega arith in
    let img = c.loop-number.invariant.bytes ∙ ap (cleared xs (slot_bytes w limit)) (done ∙ c.loop-number.invariant.end) in
    ap (λ l. imaged w g.K.Frame.decoded l (vec_items c.loop-number.store.bytes)) c.loop-number.invariant.limit ∙
    ap (imaged w g.K.Frame.decoded limit) img ∙ image_empty w g.K.Frame.decoded limit xs
