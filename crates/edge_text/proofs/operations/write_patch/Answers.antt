use Rattle.std.proofs.Common.{rules}
use Rattle.std.proofs.lemmas.Result.{on_ok_weaker}
use Rattle.cost_docs.specs.CostMap.{cost_face}
use Rattle.edge_text.proofs.OperationLemmas.{patch_written}
use Rattle.edge_text.proofs.operations.write_patch.Goals as goal

pub returns : goal.returns
returns g c =
    let net = c.args.maps.now.net.now in
    let metric = c.args.maps.now.metric.now in
    let before = cost_face net metric (g.R.RowStore.rows c.args.maps.now.before.now) in
    let after = cost_face net metric (g.R.RowStore.rows c.args.maps.now.after.now) in
    on_ok_weaker c.end_array.result
    (λ closed.
    patch_written net metric before after c.args.keys.now c.args.out.now c.begin_array.new.self c.write_version.new.out
    c.write_pairs.new.out c.end_array.new.self
    c.requires.rising (search rules) (search rules) c.in_ok-write_version.ensures c.in_ok-write_pairs.ensures
    closed (search rules))
    c.end_array.ensures.ok
