-- Of one source the pairs at the first place are its own.
use Rattle.std.proofs.Common.{◌≡◌, ◌∷◌, ◌∙◌, [], ap, map, subst}
use Rattle.std.proofs.lemmas.Result.{IfOk-weaker}
use Rattle.std.specs.Prelude.{Bool, List}
use Rattle.alto_maps.specs.Shape.{Name}
use Rattle.cost_filters.specs.Between.{Found, pairs_at}
use Rattle.cost_filters.specs.Pairs.{pair_costs}
use Rattle.cost_filters.specs.Text.{PutsIfAny, found_object}
use Rattle.cost_filters.proofs.filter.push_source.Goals as goal

pub returns : goal.returns
returns g c =
    let multi = c.args.multi in
    let pairs = c.args.pairs.now in
    let src = c.args.src.now in
    let dsts = c.args.dsts.now in
    let old = c.args.out.now in
    let new = c.push_group.new.out in
    let row : List Name → Name → Found = λ names src. map (pair_costs pairs src) names in
    let names : c.deref.result.now ≡ dsts = c.deref.ensures.value ∙ (c.in_ok-names.ensures ∙ c.names.ensures) in
    let all : c.in_ok-between.between ≡ row dsts src ∷ [] =
    c.in_ok-between.ensures ∙ ((λ i. map (row (names i)) (c.from_ref.ensures.value i))) in
    let found : c.from_source-found.result ≡ row dsts src =
    c.from_source-found.ensures ∙ ap (λ (all : List Found). pairs_at all 0) all in
    IfOk-weaker c.push_group.result _ _
    (λ (after : Bool) put.
    subst (λ (of : Name). PutsIfAny of (found_object multi dsts (row dsts src)) c.args.later old after new)
    c.as_str.ensures
    (subst (λ (row : Found). PutsIfAny c.as_str.result.now (found_object multi dsts row) c.args.later old after new)
    found (put dsts c.starts.ensures)))
    c.push_group.ensures
