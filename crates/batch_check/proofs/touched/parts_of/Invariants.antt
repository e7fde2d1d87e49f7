-- The resources so far are those that the writes so far are part of.
use Rattle.std.proofs.Common.{◌≡◌, take}
use Rattle.std.specs.BTreeSet.{contains}
use Rattle.alto_rows.specs.declared.resource.Resource.{Resource}
use Rattle.alto_rows.specs.Order.{resource_cmp}
use Rattle.batch_check.specs.Touched.{is_part}
use Rattle.batch_check.proofs.touched.parts_of.Given as goal

abbrev pub invariant-loop-write : goal.invariant-loop-write
invariant-loop-write l = (of : Resource) → contains resource_cmp l.parts of ≡ is_part (take l.write-index l.writes) of
