use Rattle.std.proofs.Common.{◌∙◌, ap, map}
use Rattle.std.proofs.lemmas.Result.{IfOk-weaker}
use Rattle.std.specs.List.{filter_map}
use Rattle.alto_rows.specs.Versions.{net_declared}
use Rattle.alto_directory.specs.Network.{network_of}
use Rattle.alto_directory.proofs.RowLemmas.{nets_in_span}
use Rattle.alto_directory.proofs.network.networks_of.Goals as goal

pub returns : goal.returns
returns g c =
    let rows = g.R.RowStore.rows c.args.rows.now in
    IfOk-weaker c.networks_walked-networks.result _ _
    (λ networks told. told ∙ ap (map (network_of rows))
    (ap (filter_map net_declared) c.rows_in-nets.ensures ∙ nets_in_span rows))
    c.networks_walked-networks.ensures
