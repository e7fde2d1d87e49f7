use Rattle.std.proofs.Common.{◌≡◌, ◌++◌, map, take}
use Rattle.alto_directory.specs.Entries.{cost_map}
use Rattle.alto_directory.specs.Entry.{shown}
use Rattle.alto_directory.proofs.entries.push_cost_maps.Given as goal

abbrev pub invariant-loop-metric : goal.invariant-loop-metric
invariant-loop-metric l =
    map shown l.entries.items ≡ map shown l.initial.entries.items
    ++ map (cost_map l.net) (take l.metric-index l.metrics)
