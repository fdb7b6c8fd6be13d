use Rattle.std.proofs.Common.{◌≡◌, ℕ, length, take, replicate, arith, sym, ap, ◌∙◌}
use Rattle.std.proofs.lemmas.List.{length-replicate}
use Rattle.chapter.proofs.Sameness.{begins, same_list, same_frame}
use Rattle.chapter.proofs.storing.same.Goals as goal

-- both buffers begin with the bytes that were written, which are as many as the width
pub returns-clause-told : goal.returns-clause-told
returns-clause-told g c equal =
    let kind = g.K.Frame in
    let laws = g.met.K.Frame in
    let room = length-replicate {A = ℕ} 256 0 in
    let a = kind.encoded c.args.a in
    let b = kind.encoded c.args.b in
    let long_a : length a ≡ c.width-width.result = laws.sized c.args.a ∙ sym c.width-width.ensures in
    let long_b : length b ≡ c.width-width.result = laws.sized c.args.b ∙ sym c.width-width.ensures in
    let front_a = begins a (replicate 256 0) c.write_bytes.new.out c.write_bytes.result (omega (arith, laws.sized c.args.a, laws.compact.1, room)) c.write_bytes.ensures in
    let front_b = begins b (replicate 256 0) c.write_bytes-2.new.out c.write_bytes-2.result (omega (arith, laws.sized c.args.b, laws.compact.1, room)) c.write_bytes-2.ensures in
    let same = same_list _ _ c.eq.result c.eq.ensures equal in
    same_frame kind.encoded kind.decoded laws.decodes c.args.a c.args.b
    (sym front_a ∙ ap (λ n. take n c.write_bytes.new.out) long_a ∙ same ∙ sym (ap (λ n. take n c.write_bytes-2.new.out) long_b) ∙ front_b)
