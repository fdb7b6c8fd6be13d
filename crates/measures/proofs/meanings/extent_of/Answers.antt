use Rattle.std.proofs.Common.{sym, subst}
use Rattle.measures.specs.Meanings.{Reaches}
use Rattle.measures.proofs.Extremes.{extent_reaches}
use Rattle.measures.proofs.meanings.extent_of.Goals as goal

pub returns-clause-reaches : goal.returns-clause-reaches
returns-clause-reaches g c = subst (Reaches g.K.Frame _) (sym c.measure_of.ensures.value) (extent_reaches g.K.Frame _)
