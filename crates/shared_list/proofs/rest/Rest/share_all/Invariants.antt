use Rattle.std.proofs.Common.{◌≡◌, ◌++◌, drop}
use Rattle.std.specs.Arc.{arc_value}
use Rattle.std.specs.List.{flat_map}
use Rattle.shared_list.proofs.rest.Rest.share_all.Given as goal

-- what is there, and the runs that are left, are all
abbrev pub invariant-loop-run : goal.invariant-loop-run
invariant-loop-run g l = l.shared ++ flat_map arc_value (drop l.run-index l.runs) ≡ l.fn.shared ++ l.fn.self
