use Rattle.std.proofs.Common.{ℕ, ◌++◌, List, ap, ◌∙◌}
use Rattle.tips_graph.specs.Graph.{last_of, status_of}
use Rattle.alto_drill.specs.Edges.{edges_from}
use Rattle.alto_drill.proofs.EdgeLemmas.{starts_more}
use Rattle.alto_drill.proofs.edges.edges_of.Goals as goal

pub loop-i-preserved : goal.loop-i-preserved
loop-i-preserved g c =
    c.in_ok-add_edges_from.ensures
    ∙ ap (λ (edges : List (ℕ × ℕ)). edges ++ edges_from (status_of c.args.graph.now) (last_of c.args.graph.now)
    c.loop-i.i) c.loop-i.invariant
    ∙ starts_more (status_of c.args.graph.now) (last_of c.args.graph.now) c.loop-i.i
