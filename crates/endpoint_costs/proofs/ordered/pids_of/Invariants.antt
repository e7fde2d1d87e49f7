use Rattle.std.proofs.Common.{◌≡◌, ◌++◌, drop}
use Rattle.endpoint_costs.specs.Entries.{pids}
use Rattle.endpoint_costs.proofs.ordered.pids_of.Given as goal

abbrev pub invariant-loop-end : goal.invariant-loop-end
invariant-loop-end l = l.pids.items ++ pids (drop l.end-index l.ends) ≡ pids l.ends
