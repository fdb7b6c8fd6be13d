use Rattle.std.proofs.Common.{length, vec_items, ap, ◌∙◌, arith}
use Rattle.std.proofs.lemmas.Grind.{common_steps}
use Rattle.stores.proofs.Refusals.{put_done}
use Rattle.slot_stores.specs.Image.{imaged}
use Rattle.slot_stores.specs.InImage.{image}
use Rattle.slot_stores.proofs.Told.{put_told}
use Rattle.slot_stores.proofs.InImage.{place_slot, image_put}
use Rattle.slot_stores.proofs.image.store.ImageStoreStore.put.Goals as goal

pub returns-in_err-number-clause-promised : goal.returns-in_err-number-clause-promised
returns-in_err-number-clause-promised g c =
    put_told (image g.K.Frame c.args.self.now) c.args.frames.now _ c.from_residual.result c.in_err-number.ensures c.from_residual.ensures.1

pub slot_start-at-requires : goal.slot_start-at-requires
slot_start-at-requires g c =
    let s = c.args.self.now in
    (place_slot g.K.Frame.wide g.K.Frame.decoded s.limit (vec_items s.bytes) _ (length c.args.frames.now) c.in_ok-number.ensures).0

pub returns-clause-bytes : goal.returns-clause-bytes
returns-clause-bytes g c = grind (arith, common_steps)

pub returns-clause-promised : goal.returns-clause-promised
returns-clause-promised g c =
    let s = c.args.self.now in
    let w = g.K.Frame.wide in
    let dec = g.K.Frame.decoded in
    let b = c.args.frames.now in
    let p = place_slot w dec s.limit (vec_items s.bytes) _ (length b) c.in_ok-number.ensures in
    put_done (image g.K.Frame s) b _ _ c.in_ok-number.ensures
    (ap (imaged w dec s.limit) (returns-clause-bytes g c) ∙
    image_put w dec s.limit (vec_items s.bytes) _ p.0 g.K.Frame.encoded g.met.K.Frame.sized g.met.K.Frame.decodes b p.1)
