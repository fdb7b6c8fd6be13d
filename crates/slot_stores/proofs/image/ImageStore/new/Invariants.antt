use Rattle.std.proofs.Common.{◌≡◌, vec_items}
use Rattle.slot_stores.specs.Image.{cleared, image_slots, slot_bytes}
use Rattle.slot_stores.proofs.image.ImageStore.new.Given as goal

abbrev pub invariant-loop-number : goal.invariant-loop-number
invariant-loop-number g l =
    record {
      limit : l.store.limit ≡ l.initial.store.limit;
      end : l.number-end ≡ image_slots g.K.Frame.wide l.initial.store.limit (vec_items l.initial.store.bytes);
      bytes : vec_items l.store.bytes ≡ cleared (vec_items l.initial.store.bytes) (slot_bytes g.K.Frame.wide l.initial.store.limit) l.number;
    }
