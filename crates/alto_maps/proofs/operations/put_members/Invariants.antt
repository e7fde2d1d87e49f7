use Rattle.std.proofs.Common.{◌≡◌, ◌++◌, take, map}
use Rattle.json_patch.specs.Operations.{operations_of}
use Rattle.alto_maps.specs.OperationForm.{under, on_members}
use Rattle.alto_maps.proofs.operations.put_members.Given as goal

abbrev pub invariant-loop-member : goal.invariant-loop-member
invariant-loop-member g l =
    operations_of l.ops.items
    ≡ operations_of l.initial.ops.items
    ++ map (under g.M.MapSource.shape.section)
    (map (under l.touched.0) (on_members (g.M.MapSource.face l.before) (g.M.MapSource.face l.after)
    l.touched.0 (take l.member-index l.touched.1)))
