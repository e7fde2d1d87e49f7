use Rattle.std.proofs.Common.{◌≡◌, take}
use Rattle.std.specs.List.{flat_map}
use Rattle.alto_directory.specs.Entries.{resource_ids}
use Rattle.alto_directory.proofs.ids.all_ids.Given as goal

abbrev pub invariant-loop-network : goal.invariant-loop-network
invariant-loop-network l = l.ids.items ≡ flat_map resource_ids (take l.network-index l.networks)
