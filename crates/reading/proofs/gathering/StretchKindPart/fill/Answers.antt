use Rattle.std.proofs.Common.{length, arith}
use Rattle.std.proofs.lemmas.Result.{err_from_is_err_and}
use Rattle.reading.proofs.Reading.{stops_among}
use Rattle.reading.proofs.Spans.{within}
use Rattle.reading.proofs.gathering.StretchKindPart.fill.Goals as goal

pub returns-in_err-read_row-in-Row-clause-told : goal.returns-in_err-read_row-in-Row-clause-told
returns-in_err-read_row-in-Row-clause-told g c =
    let p = err_from_is_err_and c.from_residual.result c.from_residual.ensures.1 in
    rw (p.1, p.2)
    (λ sound.
    let i = within (g.S.Store.meaning c.args.store.now) c.args.self.now c.in-Row.entries c.in-Row.span c.args.skip (length c.args.buffer.now) c.in-Row.is sound c.requires.within in
    let stop = c.in_err-read_row-in-Row.ensures.told i.tied (omega (arith, i.long)) (omega (arith, i.small)) in
    (stop.entry.block, i.among c.saturating_add.result stop.entry.block (omega (arith, i.small)) (stops_among i.tied stop), stop.fails))

pub returns-in_ok-read_row-in-Row-clause-told : goal.returns-in_ok-read_row-in-Row-clause-told
returns-in_ok-read_row-in-Row-clause-told g c = λ sound.
    let i = within (g.S.Store.meaning c.args.store.now) c.args.self.now c.in-Row.entries c.in-Row.span c.args.skip (length c.args.buffer.now) c.in-Row.is sound c.requires.within in
    let read = c.in_ok-read_row-in-Row.ensures.told i.tied (omega (arith, i.long)) (omega (arith, i.small)) in
    (rw (← i.same c.saturating_add.result (omega (arith, i.small))) read.0, read.1, tt)
