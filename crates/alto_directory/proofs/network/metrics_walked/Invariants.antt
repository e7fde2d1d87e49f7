use Rattle.std.proofs.Common.{◌≡◌, ◌++◌, length}
use Rattle.std.specs.List.{filter_map}
use Rattle.alto_directory.specs.Network.{metric_declared}
use Rattle.alto_directory.proofs.network.metrics_walked.Given as goal

-- the metrics that are there, and those that the walk has left, are all
abbrev pub invariant-loop-row : goal.invariant-loop-row
invariant-loop-row g l =
    l.metrics.items ++ filter_map metric_declared l.declared ≡ filter_map metric_declared l.initial.declared

abbrev pub decreases-loop-row : goal.decreases-loop-row
decreases-loop-row g l = length l.declared
