-- The search is by the names.
use Rattle.std.proofs.Common.{◌≡◌, List, ap, length, of_calls, rules, subst}
use Rattle.std.proofs.lemmas.Fn.{always_returns_same}
use Rattle.alto_rows.specs.Order.{name_cmp}
use Rattle.cost_tables.specs.Lists.{IsPlace}
use Rattle.cost_tables.specs.Tables.{Name}
use Rattle.cost_tables.proofs.PairLemmas.{place_found, place_missed}
use Rattle.cost_tables.proofs.destinations.Destinations.search.Goals as goal

pub returns-in-Ok : goal.returns-in-Ok
returns-in-Ok c =
    let names = c.self.inside.names.items in
    let dst = c.args.destination.now in
    let is : names ≡ c.args.self.now.names = ap (λ list. list.names) c.self.view_is in
    let lies = c.deref.ensures.value in
    let searched = c.binary_search_by.ensures.position (λ (name : Name). name_cmp name dst)
    (always_returns_same _ _ _ (λ a r f k. search (rules, of_calls))) in
    subst (λ (all : List Name). IsPlace all dst c.in-Ok.place) is
    (place_found names dst c.binary_search_by.result c.in-Ok.place c.self.invariant
    (rw (← lies) c.binary_search_by.ensures.bound) (rw (← lies) searched) c.in-Ok.is)

pub returns-in-Err : goal.returns-in-Err
returns-in-Err c =
    let names = c.self.inside.names.items in
    let dst = c.args.destination.now in
    let is : names ≡ c.args.self.now.names = ap (λ list. list.names) c.self.view_is in
    let lies = c.deref.ensures.value in
    let searched = c.binary_search_by.ensures.position (λ (name : Name). name_cmp name dst)
    (always_returns_same _ _ _ (λ a r f k. search (rules, of_calls))) in
    let past : c.len.result ≡ length names = search rules in
    subst (λ (all : List Name). IsPlace all dst c.len.result) is
    (rw past (place_missed names dst c.binary_search_by.result c.in-Err.field-0 c.self.invariant
    (rw (← lies) c.binary_search_by.ensures.bound) (rw (← lies) searched) c.in-Err.is))
