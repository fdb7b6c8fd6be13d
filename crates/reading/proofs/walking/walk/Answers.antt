use Rattle.std.proofs.Common.{◌≡◌, ◌+◌, ◌-◌, ◌^◌, min, Ok, Err, length, take, drop, ap, ◌∙◌, arith, rules}
use Rattle.reading.proofs.Walk.{length_part, walk_skip, walk_read, walk_as}
use Rattle.reading.proofs.Places.{all_at}
use Rattle.reading.proofs.Breaking.{breaks}
use Rattle.reading.proofs.walking.walk.Goals as goal
use Rattle.reading.proofs.walking.walk.Goals.{then-skip-len, else-skip-len+in_ok-map_err}

pub returns-in_err-map_err-clause-told : goal.returns-in_err-map_err-clause-told
returns-in_err-map_err-clause-told g c =
    let p = g.P.Part in
    let m = g.S.Store.meaning c.args.store.now in
    let xs = c.args.parts.now in
    let i = c.loop-part.part-index in
    let x = c.part-item.result in
    let here = c.loop-part-test.true in
    let inv = c.loop-part.invariant in
    let f = c.in_err-map_err.field-0.0 in
    let fell : c.fill.result ≡ Err f.fault = search rules in
    let at : f.at ≡ min (c.args.start + c.loop-part.done) (2 ^ 64 - 1) = search rules in
    let out : c.from_residual.result ≡ Err f = search rules in
    rw out
    (λ tied fits.
    let walk = inv.2 tied fits in
    let ties = all_at (p.tied m) xs i x here c.part-item.is tied in
    let long = g.met.P.Part.sized m x ties in
    let k = c.loop-part.done + c.min-count.result - c.loop-part.done in
    let told = rw (inv.1, fell) at c.fill.ensures.told in
    breaks p walk.0 walk.1 x here c.part-item.is long (omega arith) (omega arith) c.min-count.result k (omega arith) (omega arith) f at c.fill.new.buffer (told ties))

pub loop-part-preserved : goal.loop-part-preserved
loop-part-preserved g c =
    let p = g.P.Part in
    let m = g.S.Store.meaning c.args.store.now in
    let xs = c.args.parts.now in
    let i = c.loop-part.part-index in
    let x = c.part-item.result in
    let here = c.loop-part-test.true in
    let inv = c.loop-part.invariant in
    elim c.if-skip-len.branch [
      | then-skip-len w ↦ (
        omega arith,
        ap g.S.Store.meaning w.store-is ∙ inv.1,
        λ tied fits.
            let walk = inv.2 tied fits in
            let ties = all_at (p.tied m) xs i x here c.part-item.is tied in
            let long = g.met.P.Part.sized m x ties in (
              walk_as (p.frames m) (omega arith) w.done-is w.buffer-is (walk_skip (p.frames m) xs c.args.start c.args.buffer.now i c.loop-part.skip c.loop-part.done c.loop-part.buffer walk.0 x here c.part-item.is (omega arith) (omega arith)),
              λ some. walk.1 (omega arith),
            ),
      )
      | else-skip-len+in_ok-map_err w ↦
          let filled : w.fill.result ≡ Ok tt = search rules in
          let told = rw (inv.1, filled) at w.fill.ensures.told in
          let store : g.S.Store.meaning w.fill.new.store ≡ g.S.Store.meaning c.loop-part.store = rw filled at w.fill.ensures.store in (
            omega arith,
            ap g.S.Store.meaning w.store-is ∙ store ∙ inv.1,
            λ tied fits.
                let walk = inv.2 tied fits in
                let ties = all_at (p.tied m) xs i x here c.part-item.is tied in
                let long = g.met.P.Part.sized m x ties in
                let r = told ties in
                let n = w.min-count.result in
                let k = c.loop-part.done + n - c.loop-part.done in
                let old = c.loop-part.buffer in
                let room : length (take k (drop c.loop-part.done old)) ≡ n = length_part c.loop-part.done k n old (omega arith) (omega arith) in
                let part : w.fill.new.buffer ≡ take n (drop c.loop-part.skip (p.frames m x)) = r.0 ∙ ap (λ z. take z (drop c.loop-part.skip (p.frames m x))) room in (
                  walk_as (p.frames m) (omega arith) w.done-is w.buffer-is (walk_read (p.frames m) xs c.args.start c.args.buffer.now i c.loop-part.skip c.loop-part.done old walk.0 x here c.part-item.is n k w.fill.new.buffer (omega arith) (omega arith) (omega arith) part),
                  λ some. r.2,
                ),
          )
    ]
