use Rattle.std.proofs.Common.{get_or, sym, arith}
use Rattle.frames.specs.Hexes.{digit_spelled, few_digits}
use Rattle.frames.proofs.hex.read_hex.Goals as goal

pub overflow_mul-number : goal.overflow_mul-number
overflow_mul-number c = record { fits = omega (arith, few_digits c.loop-byte.byte-index c.loop-byte.number (omega arith) c.loop-byte.invariant.0) }

pub overflow_add-number : goal.overflow_add-number
overflow_add-number c =
    let small = (digit_spelled (get_or c.args.text.now c.loop-byte.byte-index 0) c.in_ok-digit.digit (sym c.in_ok-digit.ensures)).0 in
    record { fits = omega (arith, few_digits c.loop-byte.byte-index c.loop-byte.number (omega arith) c.loop-byte.invariant.0, small) }
