use Rattle.std.proofs.lemmas.Result.{err_from_is_err_and}
use Rattle.stores.proofs.Refusals.{place_found, place_refused}
use Rattle.stores.proofs.store.Store.check_put.Goals as goal

pub returns-in_err-place : goal.returns-in_err-place
returns-in_err-place g c =
    let p = err_from_is_err_and c.from_residual.result c.from_residual.ensures.1 in
    rw (p.1, p.2) (place_refused (g.Self.Store.meaning c.args.self.now) c.args.count _ c.in_err-place.ensures)

pub returns : goal.returns
returns g c = (place_found (g.Self.Store.meaning c.args.self.now) c.args.count _ c.in_ok-place.ensures).0
