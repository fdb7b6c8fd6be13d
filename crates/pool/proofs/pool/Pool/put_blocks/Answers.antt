use Rattle.std.proofs.Common.{◌≡◌, ℕ, List, [], refl, map, length, vec_items, sym, ap, ◌∙◌, subst, arith, take_all}
use Rattle.stores.specs.Meaning.{block}
use Rattle.reading.specs.Stretches.{sequence}
use Rattle.pool.specs.Blocks.{cutout, Stored}
use Rattle.pool.proofs.Placing.{Putting, putting_none, putting_back, putting_keeps, putting_below, stored}
use Rattle.pool.proofs.Stays.{rows_stay}
use Rattle.pool.proofs.NextBlock.{more, stopped}
use Rattle.pool.proofs.pool.Pool.put_blocks.Goals as goal

pub loop-cut-init : goal.loop-cut-init
loop-cut-init g c =
    let m = g.S.Store.meaning c.args.self.now.store in
    let none : vec_items c.reserve.new.self ≡ [] = c.reserve.ensures.items ∙ c.clear.ensures.items in
    let P : List ℕ → Type 0 = λ z. Putting m [] z m in
    record {
      len = c.reserve.ensures.len ∙ c.clear.ensures.len;
      room = omega (arith, c.in_ok-reserve.ensures.ok, c.clear.ensures.len);
      parts = ([], refl, subst P (sym none) putting_none, λ sound fits. refl);
      counts = (refl, (refl, (refl, refl)));
      keeps = λ before. before;
    }

pub loop-cut-preserved : goal.loop-cut-preserved
loop-cut-preserved g c =
    let m = g.S.Store.meaning c.args.self.now.store in
    let inv = c.loop-cut.invariant in
    let parts = inv.parts in
    let told = c.in-Ok.ensures in
    let next = more m _ c.args.stretches.now c.args.cuts.now c.loop-cut.cut-index (length c.args.work.now) c.loop-cut-test.true parts.0 _ parts.1 parts.2 c.in-Ok.number _ parts.3 told.store (λ s f. told.told s (omega (arith, f.0), f.1)) in
    let P : List ℕ → Type 0 = λ z. Putting m next.parts z (g.S.Store.meaning c.put_part.new.self.store) in
    record {
      len = omega arith;
      room = omega arith;
      parts = (next.parts, next.count, subst P (sym c.push_reserved.ensures.items) next.putting, next.right);
      counts = (told.counts.0 ∙ inv.counts.0, (told.counts.1.0 ∙ inv.counts.1.0, (told.counts.1.1.0 ∙ inv.counts.1.1.0, told.counts.1.1.1 ∙ inv.counts.1.1.1)));
      keeps = λ before. told.keeps (inv.keeps before);
    }

pub returns-in-Err-clause-store : goal.returns-in-Err-clause-store
returns-in-Err-clause-store g c =
    (c.take_back.ensures.numbers, putting_back c.loop-cut.invariant.parts.2 c.in-Err.fault.error _ _ c.in-Err.ensures.store c.take_back.ensures.store)

pub returns-in-Err-clause-rows : goal.returns-in-Err-clause-rows
returns-in-Err-clause-rows g c =
    let undone = putting_back c.loop-cut.invariant.parts.2 c.in-Err.fault.error _ _ c.in-Err.ensures.store c.take_back.ensures.store in
    rows_stay (g.S.Store.meaning c.args.self.now.store) (g.S.Store.meaning c.take_back.new.self.store) (λ n _. ap (λ z. block z n) undone)

pub returns-in-Err-clause-told : goal.returns-in-Err-clause-told
returns-in-Err-clause-told g c =
    let parts = c.loop-cut.invariant.parts in
    stopped (g.S.Store.meaning c.args.self.now.store) _ c.args.stretches.now c.args.cuts.now c.loop-cut.cut-index (length c.args.work.now) c.loop-cut-test.true parts.0 _ parts.1 parts.2 c.in-Err.fault _ (λ s f. c.in-Err.ensures.told s (omega (arith, f.0), f.1))

pub returns-clause-below : goal.returns-clause-below
returns-clause-below g c = putting_below c.loop-cut.invariant.parts.2

pub returns-clause-store : goal.returns-clause-store
returns-clause-store g c =
    let parts = c.loop-cut.invariant.parts in
    (parts.0, omega (arith, parts.1), stored parts.2)

pub returns-clause-rows : goal.returns-clause-rows
returns-clause-rows g c =
    rows_stay (g.S.Store.meaning c.args.self.now.store) (g.S.Store.meaning c.loop-cut.self.store) (putting_keeps c.loop-cut.invariant.parts.2)

pub returns-clause-told : goal.returns-clause-told
returns-clause-told g c =
    let m = g.S.Store.meaning c.args.self.now.store in
    let cuts = c.args.cuts.now in
    let parts = c.loop-cut.invariant.parts in
    let cut = cutout (sequence m c.args.stretches.now) in
    let P : List (List g.row.S-Kind.Denot) → Type 0 = λ z. Stored m z (vec_items c.loop-cut.numbers) (g.S.Store.meaning c.loop-cut.self.store) in
    λ sound fits. subst P (parts.3 sound fits ∙ ap (map cut) (take_all _ cuts c.loop-cut-test.false)) (stored parts.2)
