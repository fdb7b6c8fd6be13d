-- The energy of frames: the sum of theirs, which stops at 2 ^ 53.
use Rattle.std.specs.Prelude.{ℕ, ◌+◌, ◌^◌, min}
use Rattle.std.proofs.Common.{arith}
use Rattle.measures.specs.declared.energy.Energy.{Energy}

abbrev pub capped_energy : ℕ → Energy
capped_energy n = record { sum = min n (2 ^ 53); stopped = omega arith }

abbrev pub added : Energy → Energy → Energy
added x y = capped_energy (x.sum + y.sum)
