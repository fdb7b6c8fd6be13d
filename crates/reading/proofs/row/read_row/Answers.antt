use Rattle.reading.proofs.Reading.{row_reads}
use Rattle.reading.proofs.row.read_row.Goals as goal

pub returns-clause-told : goal.returns-clause-told
returns-clause-told g c = λ tied fits small. row_reads g.row.S.Denot (g.S.Store.meaning c.args.store.now) (g.S.Store.meaning c.walk.new.store) c.args.entries.now c.args.start c.args.buffer.now c.walk.new.buffer small c.walk.result (c.walk.ensures.told tied fits)
