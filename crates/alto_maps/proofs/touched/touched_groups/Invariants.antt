use Rattle.std.proofs.Common.{◌≡◌, take}
use Rattle.alto_maps.specs.Touched.{touched_parts, parts_of}
use Rattle.alto_maps.proofs.touched.touched_groups.Given as goal

abbrev pub invariant-loop-place : goal.invariant-loop-place
invariant-loop-place l = parts_of l.groups.entries ≡ touched_parts (take l.place-index l.places)
