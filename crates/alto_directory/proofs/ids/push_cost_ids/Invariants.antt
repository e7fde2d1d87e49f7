use Rattle.std.proofs.Common.{◌≡◌, ◌++◌, map, take}
use Rattle.alto_directory.specs.Entries.{cost_id}
use Rattle.alto_directory.proofs.ids.push_cost_ids.Given as goal

abbrev pub invariant-loop-metric : goal.invariant-loop-metric
invariant-loop-metric l = l.ids.items ≡ l.initial.ids.items ++ map (cost_id l.net) (take l.metric-index l.metrics)
