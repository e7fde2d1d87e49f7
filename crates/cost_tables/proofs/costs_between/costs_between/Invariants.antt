use Rattle.std.proofs.Common.{◌≡◌, ◌++◌, drop, map}
use Rattle.std.specs.Prelude.{option_map}
use Rattle.std.specs.List.{flat_map}
use Rattle.cost_tables.specs.Lists.{ArePlacesFor, sources_in, table_of}
use Rattle.cost_tables.specs.Tables.{Name, cost_told}
use Rattle.cost_tables.proofs.costs_between.costs_between.Given as goal

-- the costs so far, and those of the sources that are left, are all; the places are right
abbrev pub invariant-loop-source : goal.invariant-loop-source
invariant-loop-source l =
    let sources = sources_in (option_map (λ table. table.now) l.table) in
    let costs_from = λ (source : Name). map (cost_told (table_of sources) source) l.destinations in
    (l.costs.items ++ flat_map costs_from (drop l.source-index l.sources) ≡ flat_map costs_from l.sources)
    × ArePlacesFor sources l.destinations l.places
