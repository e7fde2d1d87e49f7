use Rattle.std.proofs.Common.{◌≡◌, length}
use Rattle.alto_versions.specs.Graphs.{entries, graphs_from}
use Rattle.alto_versions.proofs.graphs.graphs_from.Given as goal

-- the graphs so far are of earlier resources
abbrev pub invariant-loop-first : goal.invariant-loop-first
invariant-loop-first g l = graphs_from (entries l.graphs) l.of ≡ graphs_from (entries l.left) l.of

abbrev pub decreases-loop-first : goal.decreases-loop-first
decreases-loop-first g l = length l.left
