use Rattle.std.proofs.Common.{◌≡◌, ◌++◌, map, take}
use Rattle.alto_directory.specs.CostTypes.{numerical_name}
use Rattle.alto_directory.proofs.capabilities.push_numerical.Given as goal

abbrev pub invariant-loop-metric : goal.invariant-loop-metric
invariant-loop-metric l = l.names.items ≡ l.initial.names.items ++ map numerical_name (take l.metric-index l.metrics)
