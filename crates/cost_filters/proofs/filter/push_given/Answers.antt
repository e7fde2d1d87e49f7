use Rattle.std.proofs.Common.{◌≡◌, ◌∷◌, ◌∙◌, ◌+◌, ap, drop, get_or, map, subst, sym}
use Rattle.std.proofs.lemmas.List.{drop_more}
use Rattle.std.specs.Prelude.{List, Option, Some}
use Rattle.serde_json.specs.Data.{Data}
use Rattle.alto_maps.specs.Shape.{Name}
use Rattle.cost_filters.specs.Between.{Found, pairs_at}
use Rattle.cost_filters.specs.Pairs.{pair_costs}
use Rattle.cost_filters.specs.Text.{PutsIfAny, found_object, group_made}
use Rattle.cost_filters.proofs.BetweenLemmas.{made_at}
use Rattle.cost_filters.proofs.TextLemmas.{group_more, object_found}
use Rattle.cost_filters.proofs.filter.push_given.Goals as goal

pub loop-at-preserved : goal.loop-at-preserved
loop-at-preserved g c =
    let l = c.loop-at in
    let multi = c.args.multi in
    let names = c.args.dsts.now in
    let pairs = c.args.pairs.now in
    let src = c.index-srcs-at.result in
    let srcs = c.args.srcs.now in
    let left = drop (l.at + 1) srcs in
    let here : get_or srcs l.at src ≡ src = sym c.index-srcs-at.is in
    let step : drop l.at srcs ≡ src ∷ left =
    drop_more srcs l.at src c.loop-at-test.true ∙ ap (λ (name : Name). name ∷ left) here in
    let group = group_made multi (Some names) pairs in
    let row : Name → Found = λ src. map (pair_costs pairs src) names in
    let found : c.from_source-found.result ≡ row src =
    c.from_source-found.ensures
    ∙ (ap (λ (all : List Found). pairs_at all l.at) c.in_ok-between.ensures
    ∙ (made_at row srcs l.at src c.loop-at-test.true ∙ ap row here)) in
    let value : found_object multi names c.from_source-found.result ≡ group src =
    ap (found_object multi names) found ∙ object_found (pair_costs pairs src) multi names c.requires in
    let name : c.as_str.result.now ≡ src = c.as_str.ensures in
    let put : PutsIfAny src (group src) l.later l.out c.in_ok-later.later c.push_group.new.out =
    subst (λ (d : Option Data). PutsIfAny src d l.later l.out c.in_ok-later.later c.push_group.new.out)
    value
    (subst (λ (of : Name). PutsIfAny of (found_object multi names c.from_source-found.result) l.later l.out
    c.in_ok-later.later c.push_group.new.out) name
    (c.in_ok-later.ensures names c.in_ok-starts.ensures)) in
    group_more group src (drop l.at srcs) left l.later c.in_ok-later.later l.out
    c.push_group.new.out _ step put l.invariant
