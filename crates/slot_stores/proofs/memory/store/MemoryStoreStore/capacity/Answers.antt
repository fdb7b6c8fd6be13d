use Rattle.std.proofs.Common.{sym}
use Rattle.slot_stores.proofs.Numbered.{numbered_length}
use Rattle.slot_stores.proofs.memory.store.MemoryStoreStore.capacity.Goals as goal

pub returns : goal.returns
returns g c = sym (numbered_length _ c.args.self.now.slots)
