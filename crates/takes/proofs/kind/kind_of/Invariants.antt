use Rattle.std.proofs.Common.{◌≡◌}
use Rattle.takes.specs.Lines.{lines, lines_left}
use Rattle.takes.specs.Kinds.{told_by}
use Rattle.takes.proofs.kind.kind_of.Given as goal

abbrev pub invariant-loop-line : goal.invariant-loop-line
invariant-loop-line l = told_by (lines_left l.line-iterator) ≡ told_by (lines l.text)
