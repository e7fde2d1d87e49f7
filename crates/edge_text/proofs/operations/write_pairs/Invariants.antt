use Rattle.std.proofs.Common.{◌≡◌, ◌++◌, List, None, drop, map}
use Rattle.std.specs.Prelude.{codes}
use Rattle.json.specs.Token.{Token}
use Rattle.alto_rows.specs.declared.key.Key.{Key}
use Rattle.alto_maps.specs.OperationForm.{under}
use Rattle.cost_docs.specs.CostMap.{cost_face}
use Rattle.edge_text.specs.Operations.{Turned, on_pairs, tokens_of}
use Rattle.edge_text.specs.Pairs.{pairs_of}
use Rattle.edge_text.proofs.operations.write_pairs.Given as goal

-- what is written, and what the pairs of the keys that are left bring, make all operations
abbrev pub invariant-loop-key : goal.invariant-loop-key
invariant-loop-key g l =
    let net = l.maps.net.now in
    let metric = l.maps.metric.now in
    let before = cost_face net metric (g.R.RowStore.rows l.maps.before.now) in
    let after = cost_face net metric (g.R.RowStore.rows l.maps.after.now) in
    let left : Turned → List Key → List Token =
    λ turned keys. tokens_of (map (under (codes "cost-map"))
    (on_pairs before after turned (pairs_of net metric keys))) in
    record {
      before : l.out.before ≡ l.initial.out.before;
      tokens : l.out.tokens ++ left l.turned (drop l.key-index l.keys) ≡ l.initial.out.tokens ++ left None l.keys;
    }
