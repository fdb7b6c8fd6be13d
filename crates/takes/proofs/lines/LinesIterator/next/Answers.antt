use Rattle.std.proofs.Common.{rules, arith, ◌+◌, ◌∷◌, take, drop, sym, refl, ap, ◌∙◌}
use Rattle.takes.specs.Lines.{lines}
use Rattle.takes.proofs.FirstLine.{from_on, lines_behind}
use Rattle.takes.proofs.lines.LinesIterator.next.Goals as goal

pub returns-clause-steps : goal.returns-clause-steps
returns-clause-steps c =
    let text = c.args.self.now.rest.now in
    let end = c.line_end-end.result in
    let behind = ap (λ b. b.now) c.unwrap_or-self.ensures ∙ from_on text (end + 1) c.get.result _ c.get.ensures.lookup refl in
    lines_behind text (search rules) ∙ ap (λ n. take n text ∷ lines (drop (n + 1) text)) (sym c.line_end-end.ensures.end) ∙ ap (λ ls. take end text ∷ lines ls) (sym behind) ∙ ap (λ n. take n text ∷ lines c.unwrap_or-self.result.now) (omega arith)
