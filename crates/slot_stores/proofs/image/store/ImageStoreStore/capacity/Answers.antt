use Rattle.std.proofs.Common.{sym, ◌∙◌}
use Rattle.slot_stores.proofs.Numbered.{numbered_length}
use Rattle.slot_stores.proofs.image.store.ImageStoreStore.capacity.Goals as goal

pub returns : goal.returns
returns g c = c.slots.ensures ∙ sym (numbered_length _ _)
