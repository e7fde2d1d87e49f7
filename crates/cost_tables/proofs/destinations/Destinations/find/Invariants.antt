use Rattle.std.proofs.Common.{take}
use Rattle.cost_tables.specs.Lists.{ArePlaces}
use Rattle.cost_tables.proofs.destinations.Destinations.find.Given as goal

-- the places so far are those of the destinations so far
abbrev pub invariant-loop-destination : goal.invariant-loop-destination
invariant-loop-destination l =
    ArePlaces l.self.names (take l.destination-index l.destinations) l.places.items
