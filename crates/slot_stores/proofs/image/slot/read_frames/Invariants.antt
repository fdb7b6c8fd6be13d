use Rattle.std.proofs.Common.{◌≡◌, ℕ, ◌*◌, ◌<◌, get_or, take, drop}
use Rattle.slot_stores.proofs.image.slot.read_frames.Given as goal

abbrev pub invariant-loop-place : goal.invariant-loop-place
invariant-loop-place g l =
    record {
      width : l.width ≡ g.K.Frame.wide;
      rest : l.rest ≡ drop (l.place-index * g.K.Frame.wide) l.bytes;
      read : (k : ℕ) (d : g.row.K.Denot) → k < l.place-index → get_or l.buffer k d ≡ g.K.Frame.decoded (take g.K.Frame.wide (drop (k * g.K.Frame.wide) l.bytes));
    }
