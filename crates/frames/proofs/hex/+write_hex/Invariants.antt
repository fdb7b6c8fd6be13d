use Rattle.std.proofs.Common.{length}
use Rattle.frames.proofs.hex.+write_hex.Given as goal

abbrev pub decreases-write_hex : goal.decreases-write_hex
decreases-write_hex l = length l.out.now
