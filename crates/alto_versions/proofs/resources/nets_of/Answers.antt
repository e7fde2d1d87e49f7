use Rattle.std.proofs.Common.{ap, ◌∙◌}
use Rattle.std.proofs.lemmas.Result.{IfOk-weaker}
use Rattle.std.specs.List.{filter_map}
use Rattle.alto_rows.specs.Versions.{net_declared}
use Rattle.alto_versions.proofs.ResourceLemmas.{nets_in_span}
use Rattle.alto_versions.proofs.resources.nets_of.Goals as goal

pub returns : goal.returns
returns g c =
    IfOk-weaker c.nets_left-nets.result _ _
    (λ nets is. is ∙ (ap (filter_map net_declared) c.rows_in-walk.ensures
    ∙ nets_in_span (g.R.RowStore.rows c.args.rows.now)))
    c.nets_left-nets.ensures
