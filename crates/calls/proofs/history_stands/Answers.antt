use Rattle.calls.proofs.History.{history_law}
use Rattle.calls.proofs.history_stands.Goals as goal

pub returns : goal.returns
returns g c = history_law _
