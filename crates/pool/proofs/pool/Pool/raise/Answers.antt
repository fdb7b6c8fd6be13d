use Rattle.std.proofs.Common.{arith, vec_items, refl}
use Rattle.pool.proofs.Accounts.{kept_stay, raised}
use Rattle.pool.proofs.pool.Pool.raise.Goals as goal

pub returns-in-Some-clause-kept : goal.returns-in-Some-clause-kept
returns-in-Some-clause-kept g c =
    (kept_stay (vec_items c.args.self.now.accounts) c.args.number c.in-Some.account.now c.in-Some.ensures.item.3 _, (refl, (refl, refl)))

pub returns-in-Some-clause-counts : goal.returns-in-Some-clause-counts
returns-in-Some-clause-counts g c =
    λ n _ fits. raised (vec_items c.args.self.now.accounts) c.args.number c.in-Some.account.now c.in-Some.ensures.item.3 n _ (omega arith) fits
