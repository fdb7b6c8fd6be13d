use Rattle.std.proofs.Common.{◌≡◌, ◌-◌, sym, refl, ap, ◌∙◌, rules, tests, arith}
use Rattle.std.proofs.lemmas.Iterator.{YieldsList-from_range}
use Rattle.std.proofs.lemmas.Iterator.Adapters.{option_map_id}
use Rattle.std.proofs.lemmas.Iterator.Search.{find_from_yields_List}
use Rattle.std.specs.List.{find, range_with_len}
use Rattle.stores.specs.Meaning.{lowest}
use Rattle.stores.proofs.Vacant.{empty, lowest_number}
use Rattle.stores.proofs.store.Store.lowest_free.Goals as goal

pub returns : goal.returns
returns g c =
    let bs = (g.Self.Store.meaning c.args.self.now).blocks in
    let n = c.capacity.result in
    let all : n - 0 ≡ n = omega arith in
    let found = find_from_yields_List (empty bs) _ _ c.find.result c.find.ensures.ran (YieldsList-from_range 0 n n refl all) (λ x b q k. search (rules, tests)) in
    let tells : c.find.result ≡ lowest (g.Self.Store.meaning c.args.self.now) =
    sym (option_map_id c.find.result) ∙
    found ∙
    ap (λ k. find (empty bs) (range_with_len 0 k)) c.capacity.ensures ∙
    lowest_number bs in
    search (rules, tells)
