use Rattle.slot_stores.proofs.Standing.{checks_stand_lem}
use Rattle.slot_stores.proofs.image.reached.checks_stand.Goals as goal

pub returns : goal.returns
returns g c = checks_stand_lem g.K.Frame g.met.K.Frame.sized g.met.K.Frame.decodes
