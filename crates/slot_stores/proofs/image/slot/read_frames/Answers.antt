use Rattle.std.proofs.Common.{◌≡◌, ℕ, ◌*◌, length, take, drop, sym, ◌∙◌, arith}
use Rattle.std.proofs.lemmas.List.{same_lists}
use Rattle.std.proofs.lemmas.List.FromFn.{length-map-range_with_len, get_or-map-range_with_len}
use Rattle.slot_stores.proofs.image.slot.read_frames.Goals as goal

pub returns : goal.returns
returns g c =
    let v = g.K.Frame.wide in
    let f : ℕ → g.row.K.Denot = λ k. g.K.Frame.decoded (take v (drop (k * v) c.args.bytes.now)) in
    let n = length c.args.buffer.now in
    let e : length c.loop-place.buffer ≡ n = omega arith in
    same_lists _ _ (e ∙ sym (length-map-range_with_len f 0 n)) (λ k d h. c.loop-place.invariant.read k d (omega arith) ∙ sym (get_or-map-range_with_len f 0 n k k d (omega arith) (omega arith)))
