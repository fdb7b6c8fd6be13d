use Rattle.std.proofs.Common.{◌≡◌, ◌+◌, ◌++◌, vec_items}
use Rattle.std.specs.Iterator.Adapters.{enumerate_source, enumerate_count}
use Rattle.takes.specs.Lines.{lines, lines_left}
use Rattle.takes.specs.Frames.{frames_in, unread_in}
use Rattle.takes.proofs.take.reading.read_take.Given as goal

-- what was read so far, and then what the rest gives, is what the whole text gives
abbrev pub invariant-loop-at : goal.invariant-loop-at
invariant-loop-at g l =
    let parsed = g.K.Frame.parsed in
    let rest = lines_left (enumerate_source l.at-iterator) in
    (goal.iterator-loop-at g).can_next l.at-iterator
    × (goal.iterator-loop-at g).is_finite l.at-iterator
    × (vec_items l.frames ++ frames_in parsed rest ≡ frames_in parsed (lines l.text))
    × (vec_items l.unread ++ unread_in parsed (enumerate_count l.at-iterator + 1) rest ≡ unread_in parsed 1 (lines l.text))
