use Rattle.std.proofs.Common.{◌≡◌, ◌++◌, map, take}
use Rattle.std.specs.List.{flat_map}
use Rattle.alto_directory.specs.Entries.{network_entries, updates_entry}
use Rattle.alto_directory.specs.Entry.{shown}
use Rattle.alto_directory.proofs.entries.entries_of.Given as goal

abbrev pub invariant-loop-network : goal.invariant-loop-network
invariant-loop-network l =
    map shown l.entries.items ≡ updates_entry l.networks ++ flat_map network_entries (take l.network-index l.networks)
