use Rattle.std.proofs.Common.{◌≡◌, drop}
use Rattle.alto_versions.specs.Front.{graph_in}
use Rattle.alto_versions.proofs.front.Front.followed.Given as goal

-- the graphs so far are of other resources
abbrev pub invariant-loop-resource : goal.invariant-loop-resource
invariant-loop-resource g l = graph_in l.self.graphs l.of ≡ graph_in (drop l.resource-index l.self.graphs) l.of
