-- The places are right in the list of the source: they were found there, or in another list with its number.
use Rattle.std.proofs.Common.{◌≡◌, ◌++◌, ◌∙◌, None, Option, Some, ap, map, option_map, slice_get, sym}
use Rattle.std.proofs.lemmas.Result.{on_ok_weaker}
use Rattle.std.specs.BTreeMap.{is_at}
use Rattle.std.specs.Map.{lookup}
use Rattle.alto_rows.specs.Order.{name_cmp}
use Rattle.cost_tables.specs.Lists.{ArePlaces, ArePlacesFor, Listed, Sources, sources_in}
use Rattle.cost_tables.specs.Tables.{cost_to}
use Rattle.cost_tables.proofs.ListLemmas.{places_of, told_found, told_none}
use Rattle.cost_tables.proofs.costs_between.push_costs_from.Goals as goal

-- what is told of what was found
told_of : {A : Type 0} (found : Option A) (told : A → Listed) (all : Option Listed) (r : Option A) → found ≡ r
    → option_map told found ≡ all → all ≡ option_map told r
told_of found told all r is tells = sym tells ∙ ap (option_map told) is

pub returns-in_default-clause-costs : goal.returns-in_default-clause-costs
returns-in_default-clause-costs c =
    let sources : Sources = sources_in (option_map (λ table. table.now) c.args.table) in
    let src = c.args.source.now in
    let dsts = c.args.destinations.now in
    let none : lookup (is_at (name_cmp src)) sources ≡ None =
    told_of c.from_in.result _ _ None c.in_default.is c.from_in.ensures.from in
    on_ok_weaker c.push_no_costs.result
    (λ is. is ∙ ap (λ told. c.args.costs.now.items ++ told) (told_none sources src dsts none)) c.push_no_costs.ensures

pub returns-clause-costs : goal.returns-clause-costs
returns-clause-costs c =
    let sources : Sources = sources_in (option_map (λ table. table.now) c.args.table) in
    let src = c.args.source.now in
    let test = is_at (name_cmp src) in
    let dsts = c.args.destinations.now in
    let from : Listed = c.in-Some.from.now.1 in
    let found : lookup test sources ≡ Some from =
    told_of c.from_in.result _ _ (Some c.in-Some.from) c.in-Some.is c.from_in.ensures.from in
    let placed : ArePlacesFor sources dsts c.find.new.self =
    c.find.ensures.right sources test c.from_in.ensures.lists found c.requires in
    let right : ArePlaces from.list.names dsts c.find.new.self.places =
    places_of sources test from c.find.new.self.number dsts c.find.new.self.places placed found
    c.in_ok-find.ensures.found in
    let costs = c.costs.result.now in
    on_ok_weaker c.push_at.result
    (λ is. is
    ∙ ap (λ told. c.args.costs.now.items ++ told) (ap (map (slice_get costs)) c.places.ensures
    ∙ (right costs c.costs.ensures.even
    ∙ (ap (λ told. map (cost_to told) dsts) c.costs.ensures.costs
    ∙ told_found sources src from dsts found))))
    c.push_at.ensures
