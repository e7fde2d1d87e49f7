use Rattle.std.proofs.Common.{◌≡◌, ◌++◌}
use Rattle.std.specs.List.{filter_map}
use Rattle.alto_maps.specs.Places.{set_of}
use Rattle.prop_filters.specs.Filter.{name_given}
use Rattle.prop_filters.proofs.asked.all_names.Given as goal

-- the names so far, and those that are left, are all that rows give
abbrev pub invariant-loop-name : goal.invariant-loop-name
invariant-loop-name g l = l.names.items ++ l.name-iterator
    ≡ set_of (filter_map (name_given l.net) (g.R.RowStore.rows l.rows))
