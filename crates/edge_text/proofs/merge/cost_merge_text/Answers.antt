use Rattle.std.proofs.Common.{arith}
use Rattle.serde_json.proofs.Texts.{print-outline}
use Rattle.alto_maps.specs.MergeForm.{merge_form}
use Rattle.cost_docs.specs.CostMap.{cost_face, cost_shape}
use Rattle.edge_text.proofs.PlaceLemmas.{places_of}
use Rattle.edge_text.proofs.merge.cost_merge_text.Goals as goal

pub returns : goal.returns
returns g c =
    let face = cost_face c.args.net.now c.args.metric.now (g.R.RowStore.rows c.args.rows.now) in
    let added = c.in_ok-write_patch.ensures in
    grind (
      arith,
      added.tokens,
      added.before,
      print-outline (merge_form cost_shape face (places_of c.args.net.now c.args.metric.now c.args.keys.now)),
    )
