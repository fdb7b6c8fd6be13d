use Rattle.std.proofs.Common.{sym, subst}
use Rattle.measures.specs.ClipRuns.{run_of}
use Rattle.measures.specs.Meanings.{Tells}
use Rattle.measures.specs.declared.clip_run.ClipRun.{ClipRun}
use Rattle.measures.proofs.Longest.{run_tells}
use Rattle.measures.proofs.meanings.clip_run_of.Goals as goal

pub returns-clause-tells : goal.returns-clause-tells
returns-clause-tells g c short = subst (λ (r : ClipRun). Tells g.K.Frame.clips c.args.frames.now (run_of r)) (sym c.measure_of.ensures.value) (run_tells g.K.Frame.clips c.args.frames.now short)
