use Rattle.std.proofs.Common.{◌≡◌, length}
use Rattle.std.specs.List.{filter_map}
use Rattle.alto_directory.specs.Names.{with_properties}
use Rattle.alto_directory.specs.Network.{property_in, names_of}
use Rattle.alto_directory.proofs.names.names_walked.Given as goal

-- the names so far, with those of the rows that the walk has left, are all
abbrev pub invariant-loop-row : goal.invariant-loop-row
invariant-loop-row g l =
    with_properties l.names (filter_map property_in l.properties)
    ≡ names_of (filter_map property_in l.initial.properties)

abbrev pub decreases-loop-row : goal.decreases-loop-row
decreases-loop-row g l = length l.properties
