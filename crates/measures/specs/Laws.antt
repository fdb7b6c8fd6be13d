-- The laws of each measure, of the definitions. Assumes nothing.
use Rattle.std.specs.Prelude.{◌≡◌}
use Rattle.std.proofs.Common.{arith}
use Rattle.measures.specs.Measured.{Laws}
use Rattle.measures.specs.Extents.{no_extent, wider}
use Rattle.measures.specs.Energies.{capped_energy, added}
use Rattle.measures.specs.ClipRuns.{run_of, no_run, bridged}
use Rattle.measures.specs.Summaries.{summary, no_summary, joined_summary}
use Rattle.measures.specs.declared.extent.Extent.{Extent}
use Rattle.measures.specs.declared.energy.Energy.{Energy}
use Rattle.measures.specs.declared.clip_run.ClipRun.{ClipRun}
use Rattle.measures.specs.Same.{same_extent, same_energy}
use Rattle.measures.specs.Ends.{min_assoc, max_assoc, min_top_left, min_top_right, max_end_left, max_end_right}
use Rattle.measures.specs.Bridges.{same_clip_run, capped_assoc, empty_left, empty_right}

pub extent_laws : Laws wider no_extent
extent_laws = record {
  left = λ x. same_extent _ x (min_top_left x.low x.lows) (max_end_left x.high x.highs);
  right = λ x. same_extent _ x (min_top_right x.low x.lows) (max_end_right x.high x.highs);
  assoc = λ x y z. same_extent _ _ (min_assoc x.low y.low z.low) (max_assoc x.high y.high z.high);
}

pub energy_laws : Laws added (capped_energy 0)
energy_laws = record {
  left = λ x. same_energy _ x (omega (arith, x.stopped));
  right = λ x. same_energy _ x (omega (arith, x.stopped));
  assoc = λ x y z. same_energy _ _ (omega arith);
}

pub clip_run_laws : Laws bridged no_run
clip_run_laws = record {
  left = λ x. same_clip_run _ x (empty_left (run_of x) x.sound);
  right = λ x. same_clip_run _ x (empty_right (run_of x) x.sound);
  assoc = λ x y z. same_clip_run _ _ (capped_assoc (run_of x) (run_of y) (run_of z) x.sound y.sound z.sound);
}

same_summary : {e e' : Extent} {n n' : Energy} {r r' : ClipRun} → e ≡ e' → n ≡ n' → r ≡ r' → summary e n r ≡ summary e' n' r'
same_summary p q s = cc

pub summary_laws : Laws joined_summary no_summary
summary_laws = record {
  left = λ x. same_summary (extent_laws.left x.extent) (energy_laws.left x.energy) (clip_run_laws.left x.run);
  right = λ x. same_summary (extent_laws.right x.extent) (energy_laws.right x.energy) (clip_run_laws.right x.run);
  assoc = λ x y z. same_summary (extent_laws.assoc x.extent y.extent z.extent) (energy_laws.assoc x.energy y.energy z.energy) (clip_run_laws.assoc x.run y.run z.run);
}
