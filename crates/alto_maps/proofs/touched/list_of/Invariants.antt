use Rattle.std.proofs.Common.{◌≡◌, ◌++◌}
use Rattle.alto_maps.specs.Touched.{parts_of}
use Rattle.alto_maps.proofs.touched.list_of.Given as goal

abbrev pub invariant-loop-group : goal.invariant-loop-group
invariant-loop-group l = l.list.items ++ parts_of l.group-iterator ≡ parts_of l.fn.groups.entries
