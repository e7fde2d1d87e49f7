use Rattle.std.proofs.Common.{◌≡◌, ◌++◌, map, take}
use Rattle.alto_directory.specs.CostTypes.{ordinal_name}
use Rattle.alto_directory.proofs.capabilities.push_ordinal.Given as goal

abbrev pub invariant-loop-metric : goal.invariant-loop-metric
invariant-loop-metric l = l.names.items ≡ l.initial.names.items ++ map ordinal_name (take l.metric-index l.metrics)
