-- The smaller and the larger of integers: associative, and neutral at the ends of a range. Assumes nothing.
use Rattle.std.specs.Prelude.{◌≡◌, ◌^◌, ◌<◌, ℤ, pos, negsuc}
use Rattle.std.proofs.Common.{arith}
use Rattle.std.specs.Int.Signed.{mag}
use Rattle.std.specs.Int.{int_max, int_min}
use Rattle.std.proofs.lemmas.Int.{ints, clamps}

pub min_assoc : (x y z : ℤ) → int_min (int_min x y) z ≡ int_min x (int_min y z)
min_assoc x y z = omega (arith, ints, clamps)

pub max_assoc : (x y z : ℤ) → int_max (int_max x y) z ≡ int_max x (int_max y z)
max_assoc x y z = omega (arith, ints, clamps)

pub min_top_left : (x : ℤ) → mag x < 2 ^ 31 → int_min (pos 2147483647) x ≡ x
min_top_left x f = omega (arith, ints, clamps)

pub min_top_right : (x : ℤ) → mag x < 2 ^ 31 → int_min x (pos 2147483647) ≡ x
min_top_right x f = omega (arith, ints, clamps)

pub max_end_left : (x : ℤ) → mag x < 2 ^ 31 → int_max (negsuc 2147483647) x ≡ x
max_end_left x f = omega (arith, ints, clamps)

pub max_end_right : (x : ℤ) → mag x < 2 ^ 31 → int_max x (negsuc 2147483647) ≡ x
max_end_right x f = omega (arith, ints, clamps)
