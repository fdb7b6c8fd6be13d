use Rattle.std.proofs.Common.{◌≡◌, ◌-◌, ap, ◌∙◌, rules, tests, arith}
use Rattle.std.proofs.lemmas.Iterator.{YieldsList-from_range}
use Rattle.std.proofs.lemmas.Iterator.Consumers.{YieldsList-from_filter, count_from_yields_List}
use Rattle.std.proofs.lemmas.List.Sums.{length-filter}
use Rattle.std.specs.List.{count_by, range_with_len}
use Rattle.stores.specs.Meaning.{vacant}
use Rattle.stores.proofs.Vacant.{empty, vacant_numbers}
use Rattle.stores.proofs.store.Store.free.Goals as goal

pub returns : goal.returns
returns g c =
    let bs = (g.Self.Store.meaning c.args.self.now).blocks in
    let n = c.capacity.result in
    let all : n - 0 ≡ n = omega arith in
    let numbers = YieldsList-from_range 0 n n c.filter.ensures.source all in
    let counted : c.count.result ≡ vacant bs =
    count_from_yields_List c.filter.result _ c.count.ensures.ran (YieldsList-from_filter _ (empty bs) numbers c.filter.ensures.closure (λ x b q k. search (rules, tests))) ∙
    length-filter (empty bs) (range_with_len 0 n) ∙
    ap (λ k. count_by (empty bs) (range_with_len 0 k)) c.capacity.ensures ∙
    vacant_numbers bs in
    omega (arith, counted)
