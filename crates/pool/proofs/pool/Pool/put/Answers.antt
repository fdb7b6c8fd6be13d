use Rattle.std.proofs.Common.{◌≡◌, ℕ, arith, Ok, vec_items, set, refl, ap, ◌∙◌}
use Rattle.std.proofs.lemmas.List.{map-set}
use Rattle.measures.specs.Summaries.{frame_summary}
use Rattle.pool.specs.declared.account.Account.{Account}
use Rattle.pool.specs.Accounts.{kept_of, kepts}
use Rattle.pool.proofs.Accounts.{counts_stay}
use Rattle.pool.proofs.Keeping.{put_keeps}
use Rattle.pool.proofs.pool.Pool.put.Goals as goal

pub returns-in-Some : goal.returns-in-Some
returns-in-Some g c =
    let pool = c.args.self.now in
    let accounts = vec_items pool.accounts in
    let n = c.in_ok-number.number in
    let a = c.in-Some.account.now in
    let sum = c.measure_of-account.result in
    let puts = c.in_ok-number.ensures in
    let written = λ (i : ℕ) (at : i ≡ n). ap (λ k. kepts (set accounts k (record { count = a.count; kept = sum }))) at ∙ map-set (λ (x : Account). x.kept) accounts n (record { count = a.count; kept = sum }) ∙ ap (set (kept_of pool) n) c.measure_of-account.ensures.value in
    record {
      store = puts;
      counts = (counts_stay accounts _ a c.in-Some.ensures.item.3 sum, (refl, (refl, refl)));
      kept = written _ (omega arith);
      keeps = put_keeps (frame_summary g.S.Kind.Frame) (g.S.Store.meaning pool.store) (g.S.Store.meaning c.put.new.self) (kept_of pool) _ c.args.frames.now (Ok n) puts (written _ (omega arith));
    }
