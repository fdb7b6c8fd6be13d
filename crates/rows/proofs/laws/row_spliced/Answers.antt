use Rattle.rows.proofs.Splices.{splice_shape, splice_few, splice_sized, splice_frames}
use Rattle.rows.proofs.laws.row_spliced.Goals as goal

pub returns : goal.returns
returns c = record { shape = splice_shape; few = splice_few; sizes = splice_sized; lengths = splice_frames }
