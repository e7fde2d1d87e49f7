use Rattle.std.proofs.Common.{◌≡◌, ◌++◌, length, map}
use Rattle.std.specs.List.{filter_map}
use Rattle.alto_rows.specs.Versions.{net_declared}
use Rattle.alto_directory.specs.Network.{network_of}
use Rattle.alto_directory.proofs.network.networks_walked.Given as goal

-- the networks that are there, and those that the walk has left, are all
abbrev pub invariant-loop-row : goal.invariant-loop-row
invariant-loop-row g l =
    let told = network_of (g.R.RowStore.rows l.rows) in
    l.networks.items ++ map told (filter_map net_declared l.nets) ≡ map told (filter_map net_declared l.initial.nets)

abbrev pub decreases-loop-row : goal.decreases-loop-row
decreases-loop-row g l = length l.nets
