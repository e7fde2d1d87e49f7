use Rattle.std.proofs.Common.{◌≡◌, ◌++◌, filter, map}
use Rattle.std.specs.List.{range_with_len}
use Rattle.tips_graph.specs.Graph.{status_of}
use Rattle.alto_drill.specs.Edges.{is_here}
use Rattle.alto_drill.proofs.edges.add_edges_from.Given as goal

abbrev pub invariant-loop-j : goal.invariant-loop-j
invariant-loop-j g l =
    l.edges.items ≡ l.initial.edges.items
    ++ map (λ j. (l.i, j)) (filter (λ j. is_here (status_of l.graph l.i j)) (range_with_len 0 l.j))
