-- The three measures together.
use Rattle.frames.specs.declared.frame.Frame as frame
use Rattle.measures.specs.Extents.{frame_extent, no_extent, wider}
use Rattle.measures.specs.Energies.{capped_energy, added}
use Rattle.measures.specs.ClipRuns.{frame_run, no_run, bridged}
use Rattle.measures.specs.declared.extent.Extent.{Extent}
use Rattle.measures.specs.declared.energy.Energy.{Energy}
use Rattle.measures.specs.declared.clip_run.ClipRun.{ClipRun}
use Rattle.measures.specs.declared.summary.Summary.{Summary}

abbrev pub summary : Extent → Energy → ClipRun → Summary
summary e n r = record { extent = e; energy = n; run = r }

abbrev pub no_summary : Summary
no_summary = summary no_extent (capped_energy 0) no_run

abbrev pub joined_summary : Summary → Summary → Summary
joined_summary x y = summary (wider x.extent y.extent) (added x.energy y.energy) (bridged x.run y.run)

-- the summary of one frame, by the facts of its kind
abbrev pub frame_summary : {K : Type 0} → frame.Ghosts K → K → Summary
frame_summary kind x = summary (frame_extent kind x) (capped_energy (kind.power x)) (frame_run (kind.clips x))
