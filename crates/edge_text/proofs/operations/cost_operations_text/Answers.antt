use Rattle.std.proofs.Common.{arith}
use Rattle.serde_json.proofs.Texts.{print-outline}
use Rattle.json_patch.specs.OperationList.{operations_data}
use Rattle.alto_maps.specs.OperationForm.{operation_form}
use Rattle.cost_docs.specs.CostMap.{cost_face, cost_shape}
use Rattle.edge_text.proofs.PlaceLemmas.{places_of}
use Rattle.edge_text.proofs.operations.cost_operations_text.Goals as goal

pub returns : goal.returns
returns g c =
    let net = c.args.net.now in
    let metric = c.args.metric.now in
    let before = cost_face net metric (g.R.RowStore.rows c.args.before.now) in
    let after = cost_face net metric (g.R.RowStore.rows c.args.after.now) in
    let added = c.in_ok-write_patch.ensures in
    grind (
      arith,
      added.tokens,
      added.before,
      print-outline (operations_data (operation_form cost_shape before after (places_of net metric c.args.keys.now))),
    )
