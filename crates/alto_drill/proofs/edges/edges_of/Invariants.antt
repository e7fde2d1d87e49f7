use Rattle.std.proofs.Common.{◌≡◌}
use Rattle.std.specs.List.{flat_map, range_with_len}
use Rattle.tips_graph.specs.Graph.{last_of, status_of}
use Rattle.alto_drill.specs.Edges.{edges_from}
use Rattle.alto_drill.proofs.edges.edges_of.Given as goal

abbrev pub invariant-loop-i : goal.invariant-loop-i
invariant-loop-i g l = l.edges.items ≡ flat_map (edges_from (status_of l.graph) (last_of l.graph))
    (range_with_len 0 l.i)
