use Rattle.rows.proofs.Keeps.{frames_stay_lem}
use Rattle.rows.proofs.laws.frames_stay.Goals as goal

pub returns : goal.returns
returns g c = frames_stay_lem _
