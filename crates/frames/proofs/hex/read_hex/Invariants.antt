use Rattle.std.proofs.Common.{◌≡◌, ◌^◌, ◌<◌, drop}
use Rattle.frames.specs.Hex.{hex_number}
use Rattle.frames.proofs.hex.read_hex.Given as goal

abbrev pub invariant-loop-byte : goal.invariant-loop-byte
invariant-loop-byte l =
    (l.number < 16 ^ l.byte-index) × (hex_number l.number (drop l.byte-index l.text) ≡ hex_number 0 l.text)
