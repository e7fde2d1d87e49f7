-- The entities so far, with those of the rows that are left, give what all give. Each turn takes one row.
use Rattle.std.proofs.Common.{◌++◌, length}
use Rattle.std.specs.List.{filter_map}
use Rattle.prop_filters.specs.Filter.{entity_given}
use Rattle.prop_filters.specs.Repeats.{GiveTheSame}
use Rattle.prop_filters.proofs.asked.entities_in.Given as goal

abbrev pub invariant-loop-row : goal.invariant-loop-row
invariant-loop-row g l =
    GiveTheSame (l.entities.items ++ filter_map (entity_given l.net) l.walk)
    (filter_map (entity_given l.net) l.initial.walk)

abbrev pub decreases-loop-row : goal.decreases-loop-row
decreases-loop-row g l = length l.walk
