use Rattle.std.proofs.Common.{◌≡◌, ◌++◌, map, take}
use Rattle.alto_rows.specs.declared.resource.Resource.TheVariants as resource
use Rattle.alto_versions.proofs.resources.add_property_maps.Given as goal

abbrev pub invariant-loop-net : goal.invariant-loop-net
invariant-loop-net l = l.resources.items ≡ l.initial.resources.items ++ map resource.Prop (take l.net-index l.nets)
