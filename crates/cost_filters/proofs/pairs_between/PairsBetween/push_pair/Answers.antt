-- The costs are put where they are a pair.
use Rattle.std.proofs.Common.{◌≡◌, ◌∙◌, ap, append_assoc, subst, sym}
use Rattle.std.specs.Prelude.{true, List, Option, Some, ◌++◌, ◌∷◌, [], is_some, option_map, slice_get}
use Rattle.json.specs.Print.{quoted}
use Rattle.serde_json.specs.Data.{Data}
use Rattle.serde_json.specs.Written.{comma_if, compact_text}
use Rattle.cost_filters.specs.Between.{Costs, Found, columns_at, pairs_at}
use Rattle.cost_filters.specs.Filter.{costs_data}
use Rattle.cost_filters.specs.Pairs.{costs_at, if_there}
use Rattle.cost_filters.specs.Text.{PutsIfAny}
use Rattle.cost_filters.proofs.BetweenLemmas.{pair_costs_at}
use Rattle.cost_filters.proofs.TextLemmas.{member_put, no_pair, none_put}
use Rattle.cost_filters.proofs.pairs_between.PairsBetween.push_pair.Goals as goal

pub returns : goal.returns
returns c name is =
    let src = c.args.src in
    let dst = c.args.dst in
    let multi = c.args.multi in
    let old = c.args.out.now in
    let put = c.push_made.new.out in
    let costs = c.self.inside.costs.items in
    let all = costs_at dst (columns_at src costs) in
    let there : is_some (if_there (slice_get (pairs_at c.args.self.now src) dst)) ≡ true =
    sym c.if-not-is_pair.ensures in
    let value : option_map (costs_data multi) (Some all)
    ≡ option_map (costs_data multi) (if_there (slice_get (pairs_at c.args.self.now src) dst)) =
    ap (option_map (costs_data multi)) (sym (pair_costs_at costs c.self.inside.shown c.self.inside.sources
    c.self.inside.destinations src dst
    (subst (λ (pairs : List Found). is_some (if_there (slice_get (pairs_at pairs src) dst)) ≡ true)
    (sym c.self.view_is) there)))
    ∙ ap (λ (pairs : List Found). option_map (costs_data multi) (if_there (slice_get (pairs_at pairs src) dst)))
    c.self.view_is in
    let named : put ≡ (old ++ comma_if c.args.later) ++ (quoted name ++ 58 ∷ []) =
    c.in_ok-push_made.ensures name is ∙ sym (append_assoc old (comma_if c.args.later) (quoted name ++ 58 ∷ [])) in
    let whole : c.push_costs.new.out ≡ put ++ compact_text (costs_data multi all) =
    c.in_ok-push_costs.ensures
    ∙ ap (λ (columns : List Costs). put ++ compact_text (costs_data multi (costs_at dst (columns_at src columns))))
    c.deref.ensures.value in
    subst (λ (d : Option Data). PutsIfAny name d c.args.later old true c.push_costs.new.out) value
    (member_put name (costs_data multi all) c.args.later old (old ++ comma_if c.args.later) put
    c.push_costs.new.out (λ i. old ++ comma_if c.args.later) named whole)

pub returns-then-not-is_pair : goal.returns-then-not-is_pair
returns-then-not-is_pair c name is =
    let old = c.args.out.now in
    let found = if_there (slice_get (pairs_at c.args.self.now c.args.src) c.args.dst) in
    subst (λ (d : Option Data). PutsIfAny name d c.args.later old c.args.later old)
    (sym (no_pair (costs_data c.args.multi) found (sym c.if-not-is_pair.ensures))) (none_put name c.args.later old)
