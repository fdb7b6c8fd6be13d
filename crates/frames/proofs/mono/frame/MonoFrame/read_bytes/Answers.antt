use Rattle.std.proofs.Common.{◌+◌, ◌*◌, ◌<◌, slice_index, ap, ◌∙◌, w16, to_z, rules}
use Rattle.std.proofs.ByRecursion.{All-from_get_or}
use Rattle.frames.specs.SixteenBits.{mono_cast, two_bytes}
use Rattle.frames.proofs.mono.frame.MonoFrame.read_bytes.Goals as goal

pub returns : goal.returns
returns c =
    let whole = c.in_ok-bytes.ensures.cases in
    let two = two_bytes c.args.bytes.now whole.long (All-from_get_or (λ b. b < 256) _ 0 (λ i h. (c.type_inv.bytes i).fits)) in
    let read = c.from_le_bytes.ensures ∙ ap (λ xs. to_z w16 (slice_index xs 0 + slice_index xs 1 * 256)) whole.same ∙ ap (to_z w16) two.1 in
    let same = mono_cast c.new.result _ _ two.0 c.new.ensures read in
    search rules
