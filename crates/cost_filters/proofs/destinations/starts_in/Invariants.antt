use Rattle.std.proofs.Common.{◌≡◌, ◌++◌, drop, map}
use Rattle.cost_filters.specs.Text.{member_start}
use Rattle.cost_filters.proofs.destinations.starts_in.Given as goal

abbrev pub invariant-loop-name : goal.invariant-loop-name
invariant-loop-name l =
    l.starts ++ map member_start (drop l.name-index l.names) ≡ map member_start l.names
