use Rattle.std.proofs.Common.{◌≡◌, take}
use Rattle.json_tree.specs.Members.{members_data}
use Rattle.alto_maps.specs.MergeForm.{with_members}
use Rattle.alto_directory.specs.CostTypes.{metrics_types}
use Rattle.alto_directory.proofs.cost_types.put_types.Given as goal

abbrev pub invariant-loop-metric : goal.invariant-loop-metric
invariant-loop-metric l = members_data l.types
    ≡ with_members (members_data l.initial.types) (metrics_types (take l.metric-index l.metrics))
