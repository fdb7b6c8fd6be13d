-- What a call of the code is to the plain-list editor. Assumes nothing.
use Rattle.std.specs.Prelude.{List}
use Rattle.calls.specs.Plain as plain
use Rattle.calls.specs.declared.step.Step.{Step}
use Rattle.calls.specs.declared.step.Step.TheVariants.{Copy, Delete, Paste, Insert, Overwrite}
use Rattle.calls.specs.declared.call.Call.{Call}
use Rattle.calls.specs.declared.call.Call.TheVariants.{Start, Open, Step as Stepped, Keep, Withdraw, Undo, Redo, Forget, Rearm, Read}

abbrev pub step_of : {F : Type 0} → Step F → plain.Step F
step_of (Copy t s) = plain.copy t s.from s.to
step_of (Delete t s) = plain.delete t s.from s.to
step_of (Paste t at) = plain.paste t at
step_of (Insert t at frames) = plain.insert t at frames.now
step_of (Overwrite t at frames) = plain.overwrite t at frames.now

-- a call, and what a reading's buffer holds after it
abbrev pub call_of : {F : Type 0} → Call F → List F → plain.Call F
call_of Start buffer = plain.start
call_of Open buffer = plain.begin
call_of (Stepped x) buffer = plain.step (step_of x)
call_of Keep buffer = plain.keep
call_of Withdraw buffer = plain.withdraw
call_of Undo buffer = plain.undo
call_of Redo buffer = plain.redo
call_of Forget buffer = plain.forget
call_of Rearm buffer = plain.rearm
call_of (Read row start count) buffer = plain.read row start buffer
