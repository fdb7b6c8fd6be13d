use Rattle.std.proofs.Common.{◌≡◌, ◌*◌, ◌++◌, take, drop}
use Rattle.std.specs.List.{flat_map}
use Rattle.slot_stores.proofs.image.slot.write_frames.Given as goal

abbrev pub invariant-loop-i : goal.invariant-loop-i
invariant-loop-i g l =
    record {
      width : l.width ≡ g.K.Frame.wide;
      body : l.body ≡ flat_map g.K.Frame.encoded (take l.i l.frames) ++ drop (l.i * g.K.Frame.wide) l.initial.body;
    }
