use Rattle.std.proofs.Common.{◌≡◌, ◌++◌, List, None, drop}
use Rattle.json.specs.Token.{Token}
use Rattle.alto_rows.specs.declared.key.Key.{Key}
use Rattle.alto_maps.specs.Shape.{stands}
use Rattle.alto_rows.specs.Costs.{cost_of}
use Rattle.cost_docs.specs.CostMap.{cost_face}
use Rattle.edge_text.specs.Merge.{Begun, tokens_left}
use Rattle.edge_text.specs.Pairs.{pairs_of}
use Rattle.edge_text.proofs.merge.write_groups.Given as goal

-- what is written, and the pairs of the keys that are left, make all groups
abbrev pub invariant-loop-key : goal.invariant-loop-key
invariant-loop-key g l =
    let rows = g.R.RowStore.rows l.rows in
    let left : Begun → List Key → List Token =
    λ begun keys. tokens_left (stands (cost_face l.net l.metric rows)) (cost_of rows l.net l.metric)
    begun (pairs_of l.net l.metric keys) in
    record {
      before : l.out.before ≡ l.initial.out.before;
      tokens : l.out.tokens ++ left l.begun (drop l.key-index l.keys) ≡ l.initial.out.tokens ++ left None l.keys;
    }
