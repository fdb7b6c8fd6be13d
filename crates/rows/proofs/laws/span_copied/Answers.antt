use Rattle.rows.proofs.Splices.{copy_shape, copy_few, copy_sized, copy_frames}
use Rattle.rows.proofs.laws.span_copied.Goals as goal

pub returns : goal.returns
returns c = record { shape = copy_shape; few = copy_few; sizes = copy_sized; lengths = copy_frames }
