use Rattle.std.proofs.Common.{◌≡◌, ◌∷◌, ◌++◌, ◌∙◌, ◌+◌, ap, drop, refl, subst, sym}
use Rattle.std.proofs.lemmas.List.{drop_more}
use Rattle.serde_json.specs.Written.{members_text}
use Rattle.json_tree.specs.Tree.{members_in_order}
use Rattle.alto_maps.specs.Shape.{Name}
use Rattle.cost_filters.specs.Between.{Found, pairs_at}
use Rattle.cost_filters.specs.Text.{PutsIfAny, found_object}
use Rattle.cost_filters.proofs.TextLemmas.{any_more}
use Rattle.endpoint_costs.specs.Entries.{groups_at}
use Rattle.endpoint_costs.proofs.EntryLemmas.{groups_next}
use Rattle.endpoint_costs.proofs.costs.push_groups.Goals as goal

pub loop-at-init : goal.loop-at-init
loop-at-init c names are = refl

pub loop-at-preserved : goal.loop-at-preserved
loop-at-preserved c names are =
    let l = c.loop-at in
    let multi = c.args.multi in
    let src = c.index-srcs-at.result in
    let srcs = c.args.srcs.now in
    let pairs = c.args.pairs.now in
    let left = drop (l.at + 1) srcs in
    let step : drop l.at srcs ≡ src ∷ left =
    rw (drop_more srcs l.at src c.loop-at-test.true, ← c.index-srcs-at.is) refl in
    let value = found_object multi names (pairs_at pairs l.at) in
    let more = groups_at multi names left (drop (l.at + 1) pairs) in
    let put : PutsIfAny src.text value l.later l.out c.in_ok-later.later c.push_group.new.out =
    subst (λ (name : Name). PutsIfAny name value l.later l.out c.in_ok-later.later c.push_group.new.out)
    c.as_str.ensures
    (subst (λ (found : Found). PutsIfAny c.as_str.result.now (found_object multi names found) l.later l.out
    c.in_ok-later.later c.push_group.new.out) c.from_source-found.ensures
    (c.in_ok-later.ensures names are)) in
    any_more src.text value more l.later c.in_ok-later.later l.out c.push_group.new.out put
    ∙ (ap (λ ms. l.out ++ members_text l.later (members_in_order ms))
    (sym (ap (λ left. groups_at multi names left (drop l.at pairs)) step ∙ groups_next multi names src left pairs l.at))
    ∙ l.invariant names are)
