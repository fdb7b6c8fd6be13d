use Rattle.std.proofs.Common.{ap, arith, take_all}
use Rattle.std.proofs.lemmas.List.Sums.{sum_by_more}
use Rattle.rows.specs.Entries.{total}
use Rattle.rows.proofs.length.row_len.Goals as goal

pub loop-entry-preserved : goal.loop-entry-preserved
loop-entry-preserved c = omega (arith, sum_by_more (λ e. e.len) c.args.entries.now c.loop-entry.entry-index (record { block = 0; len = 0 }) c.loop-entry-test.true)

pub returns : goal.returns
returns c = omega (arith, ap total (take_all _ c.args.entries.now c.loop-entry-test.false))
