use Rattle.std.proofs.Common.{◌≡◌, ◌++◌, drop, map}
use Rattle.cost_filters.specs.Text.{member_start}
use Rattle.endpoint_costs.specs.Entries.{texts}
use Rattle.endpoint_costs.proofs.ordered.starts_of.Given as goal

abbrev pub invariant-loop-end : goal.invariant-loop-end
invariant-loop-end l = l.starts ++ map member_start (texts (drop l.end-index l.ends)) ≡ map member_start (texts l.ends)
