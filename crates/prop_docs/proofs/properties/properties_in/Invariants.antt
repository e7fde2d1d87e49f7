-- The properties that are there, and those of the rows that are left, are all. Each turn takes one row.
use Rattle.std.proofs.Common.{◌≡◌, ◌++◌, length}
use Rattle.std.specs.List.{filter_map}
use Rattle.prop_docs.specs.Properties.{prop_in}
use Rattle.prop_docs.proofs.properties.properties_in.Given as goal

abbrev pub invariant-loop-row : goal.invariant-loop-row
invariant-loop-row g l =
    l.properties.items ++ filter_map prop_in l.walk ≡ filter_map prop_in l.initial.walk

abbrev pub decreases-loop-row : goal.decreases-loop-row
decreases-loop-row g l = length l.walk
