use Rattle.std.proofs.Common.{vec_items, refl}
use Rattle.pool.proofs.Accounts.{lowered}
use Rattle.pool.proofs.Falls.{freed_none, freed_one, emptied}
use Rattle.pool.proofs.pool.Pool.lower.Goals as goal

pub returns-then-left-eq0 : goal.returns-then-left-eq0
returns-then-left-eq0 g c =
    let m = g.S.Store.meaning c.args.self.now.store in
    let m' = g.S.Store.meaning c.release.new.self in
    let i = c.args.number in
    let fall = lowered (vec_items c.args.self.now.accounts) i c.in-Some.account.now c.in-Some.ensures.item.3 c.in-Some-checked_sub.left c.in-Some-checked_sub.ensures in
    record {
      kept = (fall.kept, (refl, (refl, refl)));
      len = refl;
      counts = fall.less;
      freed = freed_one m m' _ _ i _ fall c.if-left-eq0.true (emptied m i c.release.result m' c.release.ensures);
    }

pub returns-else-left-eq0 : goal.returns-else-left-eq0
returns-else-left-eq0 g c =
    let m = g.S.Store.meaning c.args.self.now.store in
    let fall = lowered (vec_items c.args.self.now.accounts) c.args.number c.in-Some.account.now c.in-Some.ensures.item.3 c.in-Some-checked_sub.left c.in-Some-checked_sub.ensures in
    record { kept = (fall.kept, (refl, (refl, refl))); len = refl; counts = fall.less; freed = freed_none m m _ _ _ _ fall c.if-left-eq0.false }
