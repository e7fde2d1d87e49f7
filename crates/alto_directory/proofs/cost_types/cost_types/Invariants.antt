use Rattle.std.proofs.Common.{◌≡◌, take}
use Rattle.std.specs.List.{flat_map}
use Rattle.json_tree.specs.Document.{members_of}
use Rattle.json_tree.specs.Members.{members_data}
use Rattle.alto_directory.specs.CostTypes.{network_types}
use Rattle.alto_directory.proofs.cost_types.cost_types.Given as goal

-- the members so far are those of the networks so far
abbrev pub invariant-loop-network : goal.invariant-loop-network
invariant-loop-network l = members_data l.types ≡ members_of (flat_map network_types (take l.network-index l.networks))
