-- A key before the first row goes there; any other is searched for by the derived order, which is the order of keys.
use Rattle.std.proofs.Common.{◌≡◌, ◌∙◌, sym, rules, of_calls}
use Rattle.std.proofs.lemmas.Fn.{always_returns_same}
use Rattle.std.specs.Prelude.{Some, slice_get}
use Rattle.alto_rows.specs.Order.{key_cmp}
use Rattle.alto_rows.proofs.OrderLemmas.{derived_key_cmp}
use Rattle.alto_rows.proofs.PlaceLemmas.{less_tests, place_before_first}
use Rattle.alto_rows.proofs.SearchLemmas.{place_from_search}
use Rattle.alto_rows.proofs.plain.place.Goals as goal

pub returns-then-is_before-clause-place : goal.returns-then-is_before-clause-place
returns-then-is_before-clause-place c =
    let key = c.args.key.now in
    let first = c.in-Some.first.now in
    let is : slice_get c.args.rows.now 0 ≡ Some first = search rules in
    sym (place_before_first c.args.rows.now key first c.requires
    is (less_tests (key_cmp key first.0) (sym c.is_before.ensures ∙ c.if-is_before.true)))

pub returns-clause-place : goal.returns-clause-place
returns-clause-place c =
    place_from_search c.args.rows.now c.args.key.now c.binary_search_by.result c.requires
    c.binary_search_by.ensures.bound
    (c.binary_search_by.ensures.position (λ row. key_cmp row.0 c.args.key.now)
    (always_returns_same _ _ _ (λ a r f k. search (rules, of_calls, derived_key_cmp))))
