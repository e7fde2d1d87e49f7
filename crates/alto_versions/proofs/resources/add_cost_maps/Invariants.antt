use Rattle.std.proofs.Common.{◌≡◌, ◌++◌, take}
use Rattle.std.specs.List.{flat_map}
use Rattle.alto_versions.specs.Resources.{costs_of}
use Rattle.alto_versions.proofs.resources.add_cost_maps.Given as goal

abbrev pub invariant-loop-net : goal.invariant-loop-net
invariant-loop-net g l =
    l.resources.items ≡ l.initial.resources.items ++ flat_map (costs_of (g.R.RowStore.rows l.rows))
    (take l.net-index l.nets)
