use Rattle.rows.proofs.Borders.{border_whole_lem}
use Rattle.rows.proofs.laws.border_whole.Goals as goal

pub returns : goal.returns
returns c = border_whole_lem
