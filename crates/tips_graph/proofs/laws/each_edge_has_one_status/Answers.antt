use Rattle.tips_graph.proofs.GraphLaws.{one_status}
use Rattle.tips_graph.proofs.laws.each_edge_has_one_status.Goals as goal

pub returns : goal.returns
returns c = one_status
