use Rattle.std.proofs.Common.{length}
use Rattle.tips_graph.proofs.keys.+distinct_copies.Given as goal

-- both halves are shorter
abbrev pub decreases-distinct_copies : goal.decreases-distinct_copies
decreases-distinct_copies l = length l.keys.now
