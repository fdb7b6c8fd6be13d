use Rattle.std.proofs.Common.{vec_items, ◌∙◌}
use Rattle.measures.specs.Summaries.{frame_summary}
use Rattle.pool.specs.Accounts.{kept_of}
use Rattle.pool.proofs.Placing.{released_last}
use Rattle.pool.proofs.Keeping.{released_keeps}
use Rattle.pool.proofs.pool.Pool.take_back.Goals as goal

pub loop-number-preserved : goal.loop-number-preserved
loop-number-preserved g c =
    let m = g.S.Store.meaning c.loop-number.self.store in
    let m' = g.S.Store.meaning c.release.new.self in
    let n = c.in-Some.number in
    let r = c.release.result in
    let inv = c.loop-number.invariant in
    record {
      store = released_last m (vec_items c.loop-number.numbers) (vec_items c.pop.new.self) n r m' c.in-Some.ensures.items c.release.ensures ∙ inv.store;
      counts = inv.counts;
      keeps = λ before. released_keeps (frame_summary g.S.Kind.Frame) m (kept_of c.loop-number.self) n r m' c.release.ensures (inv.keeps before);
    }
