use Rattle.std.proofs.Common.{◌≡◌, vec_items, sym, ap, subst, arith, rules}
use Rattle.std.proofs.lemmas.Grind.{common_steps}
use Rattle.rows.specs.Pieces.{count_of_new, NoneEmpty}
use Rattle.rows.specs.Cutting.{cut, AddsUp, OwnOffsets, InsideWhole, BordersWhole}
use Rattle.rows.proofs.Turns.{cut_again}
use Rattle.rows.proofs.Parts.{cut_frames, cut_loose, cut_filled}
use Rattle.rows.proofs.Places.{cut_places, cut_inside}
use Rattle.rows.proofs.Borders.{cut_borders}
use Rattle.rows.proofs.cutting.pieces_of.Goals as goal
use Rattle.rows.proofs.cutting.pieces_of.Goals.{in-Some+in_ok-push, in_default}

pub loop-entry-preserved : goal.loop-entry-preserved
loop-entry-preserved c =
    cut_again c.args.row.now c.loop-entry.entry-index _ c.loop-entry.start c.loop-entry.end _ _ c.part.result (vec_items c.loop-entry.out) _ _ c.loop-entry-test.true c.part.ensures c.saturating_sub-start.ensures c.saturating_sub-end.ensures
    (elim c.match-part.branch [ in-Some+in_ok-push w ↦ search rules | in_default w ↦ search rules ])
    c.loop-entry.invariant

pub returns : goal.returns
returns c =
    let es = c.args.row.now in
    let f = c.args.span.start in
    let t = c.args.span.end in
    let is : vec_items c.loop-entry.out ≡ cut es f t = grind (arith, common_steps) in
    record {
      items = is;
      lengths = subst (AddsUp es f t) (sym is) (cut_frames es f t);
      loose = omega (arith, ap count_of_new is, cut_loose es f t);
      filled = subst NoneEmpty (sym is) (cut_filled es f t);
      places = subst (OwnOffsets es f) (sym is) (cut_places es f t);
      inside = subst (InsideWhole es f t) (sym is) (cut_inside es f t);
      borders = subst (BordersWhole es f t) (sym is) (cut_borders es f t);
      refused = tt;
    }
