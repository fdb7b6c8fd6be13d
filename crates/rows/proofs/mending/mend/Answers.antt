use Rattle.std.proofs.Common.{◌≡◌, ◌++◌, vec_items, option_to_list, OnOk, sym, ap, ◌∙◌, subst, arith, rules}
use Rattle.std.proofs.lemmas.List.{map-id}
use Rattle.std.proofs.lemmas.Iterator.Adapters.{fact_from_extend, YieldsList-from_once}
use Rattle.std.proofs.lemmas.Grind.{common_steps}
use Rattle.rows.specs.Pieces.{frames, count_of_new, WellSized}
use Rattle.rows.specs.Mending.{mended, BlocksStay}
use Rattle.rows.proofs.Turns.{mend_again}
use Rattle.rows.proofs.Keeps.{frames_kept, sizes_stand, sizes_untouched, blocks_stay}
use Rattle.rows.proofs.Fresh.{four_new}
use Rattle.rows.proofs.mending.mend.Goals as goal

pub loop-next-preserved : goal.loop-next-preserved
loop-next-preserved c =
    let more : OnOk c.extend.result (vec_items c.extend.new.self ≡ vec_items c.loop-next.out ++ option_to_list c.meet-met.result.settled) =
    fact_from_extend (λ x. x) c.extend.result c.extend.ensures.ran (λ it b. YieldsList-from_once c.meet-met.result.settled b.0) (λ xs e h. h.0 ∙ ap (λ l. vec_items c.loop-next.out ++ l) (sym (map-id xs) ∙ e))
    in
    mend_again c.args.limit c.loop-next.last _ c.loop-next.next-index _ c.meet-met.result _ _ _ c.loop-next-test.true c.meet-met.ensures
    (search rules) c.loop-next.invariant

pub returns : goal.returns
returns c =
    let L = c.args.limit in
    let ps = c.args.pieces.now in
    let is : c.push.new.self.items ≡ mended L ps = grind (arith, common_steps) in
    record {
      items = is;
      lengths = ap frames is ∙ frames_kept L ps;
      sizes = λ w. subst (WellSized L) (sym is) (sizes_stand L ps w);
      places = subst (BlocksStay ps) (sym is) (blocks_stay L ps);
      untouched = λ w. is ∙ sizes_untouched L ps w;
      few = λ e. omega (arith, ap count_of_new is, four_new L ps e);
      refused = tt;
    }
