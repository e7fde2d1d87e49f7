-- The cost map of the key joins.
use Rattle.std.proofs.Common.{sym, subst}
use Rattle.std.proofs.lemmas.Result.{IfOk-weaker}
use Rattle.std.specs.Prelude.{[], ◌∷◌}
use Rattle.std.specs.List.{filter_map}
use Rattle.alto_rows.specs.declared.key.Key.{Key}
use Rattle.alto_rows.specs.declared.resource.Resource.{Resource}
use Rattle.alto_rules.specs.Draft.{HasJoined, cost_of}
use Rattle.alto_rules.proofs.VersionLemmas.{cost_joined}
use Rattle.alto_rules.proofs.versions.with_cost.Goals as goal

pub returns-in_ok-cost-in-Metric : goal.returns-in_ok-cost-in-Metric
returns-in_ok-cost-in-Metric c =
    IfOk-weaker c.with_resource.result _ _
    (λ all more. subst (λ (k : Key). HasJoined c.args.touched (filter_map cost_of (k ∷ [])) all) (sym c.in-Metric.is)
    (subst (λ (cost : Resource). HasJoined c.args.touched (cost ∷ []) all) c.in_ok-cost-in-Metric.ensures
    (cost_joined c.args.touched all c.in_ok-cost-in-Metric.field-0 more)))
    c.with_resource.ensures
