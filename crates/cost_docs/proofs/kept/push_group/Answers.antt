-- The costs of the tables are those of the rows.
use Rattle.std.proofs.Common.{◌≡◌, ◌∙◌, ◌++◌, ◌∷◌, [], ap, append_assoc}
use Rattle.std.proofs.lemmas.Result.{on_ok_weaker}
use Rattle.json.specs.Print.{quoted}
use Rattle.serde_json.specs.Written.{compact_text}
use Rattle.alto_maps.specs.Shape.{Name, group_object}
use Rattle.alto_rows.specs.Costs.{cost_of}
use Rattle.cost_docs.specs.CostMap.{cost_face}
use Rattle.cost_docs.specs.Kept.{costs_object}
use Rattle.cost_docs.proofs.KeptLemmas.{kept_group}
use Rattle.cost_docs.proofs.kept.push_group.Goals as goal
use Rattle.cost_tables.specs.Tables.{cost_to}

pub returns : goal.returns
returns c =
    let net = c.args.net.now in
    let metric = c.args.metric.now in
    let src = c.args.source.now in
    let costs = c.costs_from-costs.result in
    let named : c.push_name.new.out ≡ c.args.out.now ++ (quoted src ++ 58 ∷ []) =
    rw c.as_str.ensures at c.in_ok-push_name.ensures in
    on_ok_weaker c.push_costs.result
    (λ is rows good told_by.
    let told : (dst : Name) → cost_to costs dst ≡ cost_of rows net metric src dst =
    λ dst. (rw c.of.ensures at (c.costs_from-costs.ensures dst)) ∙ told_by net metric src dst in
    let group : costs_object costs ≡ group_object (cost_face net metric rows) src =
    kept_group rows net metric src costs good c.push_costs.ensures.order told in
    is
    ∙ (ap (λ text. text ++ compact_text (costs_object costs)) named
    ∙ (append_assoc c.args.out.now (quoted src ++ 58 ∷ []) (compact_text (costs_object costs))
    ∙ ap (λ value. c.args.out.now ++ ((quoted src ++ 58 ∷ []) ++ compact_text value)) group)))
    c.push_costs.ensures.text
