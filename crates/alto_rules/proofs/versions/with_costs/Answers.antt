-- The metrics that the rows declare are named by the network.
use Rattle.std.proofs.Common.{ap, ◌∙◌, subst}
use Rattle.std.proofs.lemmas.Result.{IfOk-weaker}
use Rattle.std.specs.Prelude.{List}
use Rattle.std.specs.List.{filter_map}
use Rattle.alto_rows.specs.declared.key.Key.{Key}
use Rattle.alto_rows.specs.declared.resource.Resource.{Resource}
use Rattle.alto_rules.specs.Draft.{HasJoined, cost_of}
use Rattle.alto_rules.proofs.VersionLemmas.{metrics_named}
use Rattle.alto_rules.proofs.versions.with_costs.Goals as goal

pub returns : goal.returns
returns g c =
    IfOk-weaker c.with_metrics.result _ _
    (λ all more. subst (λ (costs : List Resource). HasJoined c.args.touched costs all)
    (ap (λ (these : List Key). filter_map cost_of these) (c.deref.ensures.value ∙ c.in_ok-metrics.ensures)
    ∙ metrics_named (g.R.RowStore.rows c.args.rows.now) c.args.net.now) more)
    c.with_metrics.ensures
