use Rattle.alto_maps.proofs.FormLemmas.{merge_parts}
use Rattle.alto_maps.proofs.merge.merge_edge.Goals as goal

pub returns : goal.returns
returns g c =
    rw (
      c.into_tree.ensures,
      c.in_ok-put_part-2.ensures,
      c.in_ok-section.ensures,
      c.section.ensures,
      c.deref.ensures.value,
      c.in_ok-groups.ensures,
      c.in_ok-put_part.ensures,
      c.in_ok-meta.ensures,
      c.new-edge.ensures,
    )
    (merge_parts g.M.MapSource.shape (g.M.MapSource.face c.args.after.now) c.args.places.now)
