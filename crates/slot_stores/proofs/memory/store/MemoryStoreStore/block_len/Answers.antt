use Rattle.std.proofs.Common.{length, sym, ap}
use Rattle.slot_stores.proofs.InMemory.{length_in_slot, block_past}
use Rattle.slot_stores.proofs.memory.store.MemoryStoreStore.block_len.Goals as goal

pub returns-then-number-self : goal.returns-then-number-self
returns-then-number-self g c = sym (length_in_slot c.args.self.now c.args.number c.if-number-self.true)

pub returns-else-number-self : goal.returns-else-number-self
returns-else-number-self g c = sym (ap length (block_past c.args.self.now c.args.number c.if-number-self.false))
