-- The names so far, with those of the rows that are left, are all. Each turn takes one row.
use Rattle.std.proofs.Common.{◌≡◌, length}
use Rattle.std.specs.Prelude.{[]}
use Rattle.std.specs.List.{filter_map}
use Rattle.prop_filters.specs.Filter.{name_given}
use Rattle.prop_filters.proofs.RepeatLemmas.{with_names}
use Rattle.prop_filters.proofs.asked.names_in.Given as goal

abbrev pub invariant-loop-row : goal.invariant-loop-row
invariant-loop-row g l =
    with_names l.names.keys (filter_map (name_given l.net) l.walk)
    ≡ with_names [] (filter_map (name_given l.net) l.initial.walk)

abbrev pub decreases-loop-row : goal.decreases-loop-row
decreases-loop-row g l = length l.walk
