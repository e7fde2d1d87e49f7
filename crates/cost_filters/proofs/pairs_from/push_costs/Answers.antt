use Rattle.std.proofs.Common.{◌≡◌, ◌∷◌, ◌∙◌, ◌+◌, ◌<◌, [], ap, drop, get_or, length, map, subst}
use Rattle.std.proofs.Common.{refl}
use Rattle.std.proofs.lemmas.List.{drop_more, length-map}
use Rattle.std.specs.Prelude.{ℕ, List, option_map, slice_get, unwrap_or}
use Rattle.cost_filters.specs.Between.{one_cost}
use Rattle.cost_filters.specs.Filter.{costs_data}
use Rattle.cost_filters.specs.Pairs.{if_there}
use Rattle.cost_filters.specs.Text.{PutsIfAny, member_start}
use Rattle.cost_filters.proofs.BetweenLemmas.{made_at, one_at}
use Rattle.cost_filters.proofs.TextLemmas.{shown_more}
use Rattle.cost_filters.proofs.pairs_from.push_costs.Goals as goal

pub loop-at-init : goal.loop-at-init
loop-at-init c names are = refl

pub loop-at-preserved : goal.loop-at-preserved
loop-at-preserved c names are =
    let l = c.loop-at in
    let row = map one_cost c.args.costs.now in
    let dst = get_or names l.at [] in
    let count : c.count-at-end.result ≡ length names =
    c.count-at-end.ensures ∙ (ap length are ∙ length-map names member_start) in
    let within : l.at < length names = rw (← count) c.loop-at-test.true in
    let step : drop l.at names ≡ dst ∷ drop (l.at + 1) names = drop_more names l.at [] within in
    let start : c.text.result.now ≡ member_start dst =
    c.text.ensures
    ∙ (ap (λ (texts : List (List ℕ)). unwrap_or (slice_get texts l.at) []) are
    ∙ made_at member_start names l.at [] within) in
    let value = option_map (costs_data c.args.multi) (if_there (slice_get row l.at)) in
    let is : one_cost c.cost_at.result ≡ if_there (slice_get row l.at) =
    ap one_cost c.cost_at.ensures ∙ one_at c.args.costs.now l.at in
    let put : PutsIfAny dst value l.later l.out c.in_ok-later.later c.push_one.new.out =
    subst (λ pair. PutsIfAny dst (option_map (costs_data c.args.multi) pair) l.later l.out
    c.in_ok-later.later c.push_one.new.out) is (c.in_ok-later.ensures dst start) in
    shown_more c.args.multi dst (drop l.at names) (drop (l.at + 1) names) row l.at l.later
    c.in_ok-later.later l.out c.push_one.new.out step put ∙ l.invariant names are
