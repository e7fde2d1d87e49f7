-- A key that isn't behind the first row goes there, and a search finds the place of any other.
use Rattle.std.proofs.Common.{◌≡◌, ◌∙◌, sym, rules, of_calls}
use Rattle.std.proofs.lemmas.Fn.{always_returns_same}
use Rattle.std.specs.Prelude.{Some, slice_get}
use Rattle.std.specs.declared.cmp.Ordering.TheVariants.{Less, Equal}
use Rattle.alto_rows.specs.Order.{key_cmp}
use Rattle.alto_rows.proofs.OrderLemmas.{derived_key_cmp}
use Rattle.alto_rows.proofs.SearchLemmas.{place_from_search}
use Rattle.row_chunks.proofs.RisingLemmas.{place_at_first, place_before_first}
use Rattle.row_chunks.proofs.merge.place.Goals as goal

pub returns-in-Less-clause-place : goal.returns-in-Less-clause-place
returns-in-Less-clause-place c =
    let key = c.args.key.now in
    let first = c.in-Some.first.now in
    let is : slice_get c.args.rows.now 0 ≡ Some first = search rules in
    let less : key_cmp key first.0 ≡ Less = sym (c.cmp.ensures ∙ derived_key_cmp key first.0) ∙ c.in-Less.is in
    sym (place_before_first c.args.rows.now key first c.requires is less)

pub returns-in-Equal-clause-place : goal.returns-in-Equal-clause-place
returns-in-Equal-clause-place c =
    let key = c.args.key.now in
    let first = c.in-Some.first.now in
    let is : slice_get c.args.rows.now 0 ≡ Some first = search rules in
    let equal : key_cmp key first.0 ≡ Equal = sym (c.cmp.ensures ∙ derived_key_cmp key first.0) ∙ c.in-Equal.is in
    sym (place_at_first c.args.rows.now key first c.requires is equal)

pub returns-in-Greater-clause-place : goal.returns-in-Greater-clause-place
returns-in-Greater-clause-place c =
    place_from_search c.args.rows.now c.args.key.now c.binary_search_by.result c.requires
    c.binary_search_by.ensures.bound
    (c.binary_search_by.ensures.position (λ row. key_cmp row.0 c.args.key.now)
    (always_returns_same _ _ _ (λ a r f k. search (rules, of_calls, derived_key_cmp))))
