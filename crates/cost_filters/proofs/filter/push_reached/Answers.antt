use Rattle.std.proofs.Common.{◌≡◌, ◌∷◌, ◌∙◌, ◌+◌, drop, map, refl, subst}
use Rattle.std.proofs.lemmas.List.{drop_more}
use Rattle.std.specs.Prelude.{Option, None}
use Rattle.serde_json.specs.Data.{Data}
use Rattle.cost_filters.specs.Columns.{columns_of, reached}
use Rattle.cost_filters.specs.Pairs.{pair_costs, pair_shown}
use Rattle.cost_filters.specs.Text.{PutsIfAny, found_object, group_made}
use Rattle.cost_filters.proofs.TextLemmas.{group_more, object_found, set_object}
use Rattle.cost_filters.proofs.filter.push_reached.Goals as goal

pub loop-src-preserved : goal.loop-src-preserved
loop-src-preserved g c =
    let l = c.loop-src in
    let multi = c.args.multi in
    let pairs = c.args.pairs.now in
    let src = c.src-item.result in
    let srcs = c.args.srcs.now in
    let left = drop (l.src-index + 1) srcs in
    let step : drop l.src-index srcs ≡ src ∷ left =
    rw (drop_more srcs l.src-index src c.loop-src-test.true, ← c.src-item.is) refl in
    let group = group_made multi None pairs in
    let names = c.in_ok-reached.field-0.items in
    let all = reached pairs.rows pairs.net (columns_of pairs.rows pairs.net pairs.types) src in
    let value : found_object multi c.in_ok-dsts.dsts (map (pair_costs pairs src) c.in_ok-dsts.dsts) ≡ group src =
    (λ i. found_object multi (c.in_ok-dsts.ensures i) (map (pair_costs pairs src) (c.in_ok-dsts.ensures i)))
    ∙ (object_found (pair_costs pairs src) multi names c.in_ok-reached.ensures.rise
    ∙ set_object (pair_shown multi pairs src) names all c.in_ok-reached.ensures) in
    let put : PutsIfAny src (group src) l.later l.out c.in_ok-later.later c.push_source.new.out =
    subst (λ (d : Option Data). PutsIfAny src d l.later l.out c.in_ok-later.later c.push_source.new.out)
    value c.in_ok-later.ensures in
    group_more group src (drop l.src-index srcs) left l.later c.in_ok-later.later l.out
    c.push_source.new.out _ step put l.invariant
