use Rattle.std.proofs.Common.{length, vec_items, ap, ◌∙◌, arith, ◌≢◌}
use Rattle.std.proofs.lemmas.Grind.{common_steps}
use Rattle.stores.specs.Meaning.{block}
use Rattle.slot_stores.specs.Image.{imaged}
use Rattle.slot_stores.specs.InImage.{image}
use Rattle.slot_stores.proofs.InImage.{taken_slot, image_freed}
use Rattle.slot_stores.proofs.image.store.ImageStoreStore.release.Goals as goal

pub slot_start-at-requires : goal.slot_start-at-requires
slot_start-at-requires g c =
    let s = c.args.self.now in
    taken_slot g.K.Frame.wide g.K.Frame.decoded s.limit (vec_items s.bytes) c.args.number (λ e. omega (arith, c.in_ok-check_release.ensures, e))

pub returns-clause-bytes : goal.returns-clause-bytes
returns-clause-bytes g c = grind (arith, common_steps)

pub returns-clause-promised : goal.returns-clause-promised
returns-clause-promised g c =
    let s = c.args.self.now in
    let xs = vec_items s.bytes in
    let w = g.K.Frame.wide in
    let dec = g.K.Frame.decoded in
    let some : length (block (image g.K.Frame s) c.args.number) ≢ 0 = λ e. omega (arith, c.in_ok-check_release.ensures, e) in
    (c.in_ok-check_release.ensures, ap (imaged w dec s.limit) (returns-clause-bytes g c) ∙ image_freed w dec s.limit xs c.args.number (taken_slot w dec s.limit xs c.args.number some))
