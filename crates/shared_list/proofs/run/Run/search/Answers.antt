-- What the search finds is the item of the name.
use Rattle.std.proofs.Common.{◌≡◌, ◌∙◌, ap, length, map, refl, slice_get, sym, subst, Some, None, rules, of_calls}
use Rattle.std.proofs.lemmas.Fn.{always_returns_same}
use Rattle.std.proofs.lemmas.Option.{slice_get-map, slice_get_read}
use Rattle.std.specs.Arc.{arc_value}
use Rattle.std.specs.Result.{result_ok}
use Rattle.shared_list.specs.Order.{InOrder, item_of, name_cmp, named}
use Rattle.shared_list.proofs.FindLemmas.{item_searched, none_found, one_found}
use Rattle.shared_list.proofs.SearchLemmas.{found}
use Rattle.shared_list.proofs.run.Run.search.Goals as goal

pub returns-in_err-place : goal.returns-in_err-place
returns-in_err-place g c =
    let name = g.T.Named.name in
    let q = c.args.name.now in
    let r = c.binary_search_by.result in
    let items = c.deref.result.now in
    let is : map arc_value items ≡ c.args.self.now = ap (map arc_value) c.deref.ensures.value ∙ c.self.view_is in
    let tells : item_of name (map arc_value items) q ≡ found (named name (map arc_value items)) r =
    item_searched name arc_value items q r (subst (InOrder name) (sym is) c.requires) c.binary_search_by.ensures.bound
    (c.binary_search_by.ensures.position (λ item. name_cmp (name (arc_value item)) q)
    (always_returns_same _ _ _ (λ a r f k. search (rules, of_calls)))) in
    let none : result_ok r ≡ None = sym c.ok.ensures.value ∙ c.in_err-place.was in
    rw c.from_residual.ensures
    (sym (ap (λ all. item_of name all q) (sym is) ∙ (tells ∙ none_found (named name (map arc_value items)) r none)))

pub returns : goal.returns
returns g c =
    let name = g.T.Named.name in
    let q = c.args.name.now in
    let r = c.binary_search_by.result in
    let items = c.deref.result.now in
    let is : map arc_value items ≡ c.args.self.now = ap (map arc_value) c.deref.ensures.value ∙ c.self.view_is in
    let tells : item_of name (map arc_value items) q ≡ found (named name (map arc_value items)) r =
    item_searched name arc_value items q r (subst (InOrder name) (sym is) c.requires) c.binary_search_by.ensures.bound
    (c.binary_search_by.ensures.position (λ item. name_cmp (name (arc_value item)) q)
    (always_returns_same _ _ _ (λ a r f k. search (rules, of_calls)))) in
    let place = c.in_ok-place.place in
    let item = c.in_ok-item.item.now in
    let one : result_ok r ≡ Some place = sym c.ok.ensures.value ∙ c.in_ok-place.was in
    let all = c.deref-2.result.now in
    let same : all ≡ items = c.deref-2.ensures.value ∙ sym c.deref.ensures.value in
    let here : slice_get all place ≡ Some item =
    slice_get_read all (length all) place item refl c.in_ok-item.ensures.lookup.3.0 c.in_ok-item.ensures.lookup.1 in
    let there : slice_get (map arc_value items) place ≡ Some (arc_value item) =
    rw (slice_get-map arc_value items place, ← same, here) refl in
    ap (λ item. Some item) c.deref-3.ensures
    ∙ sym (ap (λ all. item_of name all q) (sym is)
    ∙ (tells ∙ one_found name (map arc_value items) r place (arc_value item) one there))
