use Rattle.std.proofs.Common.{◌-◌}
use Rattle.tips_graph.proofs.graph.Graph.+edge_keys.Given as goal

-- both halves are shorter
abbrev pub decreases-edge_keys : goal.decreases-edge_keys
decreases-edge_keys g l = l.j - l.i
