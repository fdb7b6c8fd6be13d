use Rattle.std.proofs.Common.{length, vec_items}
use Rattle.slot_stores.specs.Image.{slot_bytes}
use Rattle.slot_stores.proofs.Numbered.{limit_of}
use Rattle.slot_stores.proofs.image.ImageStore.slot_start.Goals as goal

pub slot_size-requires : goal.slot_size-requires
slot_size-requires g c =
    let s = c.args.self.now in
    limit_of s.limit (slot_bytes g.K.Frame.wide s.limit) (length (vec_items s.bytes)) c.args.number c.requires
