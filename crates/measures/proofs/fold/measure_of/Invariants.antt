use Rattle.std.proofs.Common.{◌≡◌, ◌≤◌, length, take}
use Rattle.measures.specs.Measured.{measured}
use Rattle.measures.proofs.fold.measure_of.Given as goal

abbrev pub invariant-loop-frame : goal.invariant-loop-frame
invariant-loop-frame g l =
    let m = g.M.Measure in
    (l.frame-index ≤ length l.frames) × (l.total ≡ measured m.worth m.joined m.neutral (take l.frame-index l.frames))
