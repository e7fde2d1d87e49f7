use Rattle.std.proofs.Common.{◌∙◌}
use Rattle.alto_maps.proofs.FormLemmas.{operation_parts}
use Rattle.alto_maps.proofs.operations.json_edge.Goals as goal

pub returns : goal.returns
returns g c =
    operation_parts g.M.MapSource.shape (g.M.MapSource.face c.args.before.now) (g.M.MapSource.face c.args.after.now)
    c.args.places.now _ _ _
    c.loop-touched.invariant c.loop-touched-test.false (c.deref-touched-items.ensures.value ∙ c.in_ok-groups.ensures)
