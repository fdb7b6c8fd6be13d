-- The number that each refusal of a project is told by. Want of memory stands outside the list, as 99.
use Rattle.std.specs.Prelude.{ℕ}
use Rattle.calls.specs.declared.fault.Fault.{Fault}
use Rattle.calls.specs.declared.fault.Fault.TheVariants.{AlreadyStarted, UnfitStore, NotStarted, EditOpen, NoEdit, NoRow, ReversedSpan, NothingNamed, TooManyFrames, BeyondEnd, NoPast, NoFuture, NothingToForget, ShortWork, TooManyEntries, FewFree, Store, NoMemory}

abbrev pub code : Fault → ℕ
code AlreadyStarted = 1
code UnfitStore = 2
code NotStarted = 3
code EditOpen = 4
code NoEdit = 5
code NoRow = 6
code ReversedSpan = 7
code NothingNamed = 8
code TooManyFrames = 9
code BeyondEnd = 10
code NoPast = 11
code NoFuture = 12
code NothingToForget = 13
code ShortWork = 14
code TooManyEntries = 15
code FewFree = 16
code (Store f) = 17
code NoMemory = 99
