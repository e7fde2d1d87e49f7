use Rattle.std.proofs.Common.{◌≡◌, ◌++◌, take, map}
use Rattle.std.specs.List.{flat_map}
use Rattle.json_patch.specs.Operations.{operations_of}
use Rattle.alto_maps.specs.OperationForm.{under, on_touched, on_meta}
use Rattle.alto_maps.proofs.operations.json_edge.Given as goal

abbrev pub invariant-loop-touched : goal.invariant-loop-touched
invariant-loop-touched g l =
    operations_of l.ops.items
    ≡ on_meta g.M.MapSource.shape (g.M.MapSource.face l.after) l.places
    ++ map (under g.M.MapSource.shape.section)
    (flat_map (λ t. on_touched (g.M.MapSource.face l.before) (g.M.MapSource.face l.after) t.0 t.1)
    (take l.touched-index l.touched-items))
