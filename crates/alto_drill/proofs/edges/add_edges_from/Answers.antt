use Rattle.std.proofs.Common.{◌∷◌, ◌++◌, [], if◌then◌else◌, ap, ◌∙◌}
use Rattle.tips_graph.specs.declared.status.EdgeStatus.{EdgeStatus}
use Rattle.tips_graph.specs.Graph.{status_of}
use Rattle.alto_drill.specs.Edges.{is_here}
use Rattle.alto_drill.proofs.EdgeLemmas.{ends_step}
use Rattle.alto_drill.proofs.edges.add_edges_from.Goals as goal

pub loop-j-preserved : goal.loop-j-preserved
loop-j-preserved g c =
    c.in_ok-add_edge.ensures
    ∙ ap (λ (status : EdgeStatus). c.loop-j.edges.items ++ (if is_here status then (c.args.i, c.loop-j.j) ∷ [] else []))
    c.status.ensures
    ∙ ends_step (status_of c.args.graph.now) c.args.i c.loop-j.j c.args.edges.now.items c.loop-j.edges.items
    c.loop-j.invariant
