use Rattle.std.proofs.Common.{refl}
use Rattle.path_docs.proofs.properties.properties_part.Goals as goal

pub returns : goal.returns
returns g c =
    rw (
      c.into_tree.ensures,
      c.in_ok-put-2.ensures.ok,
      c.in_ok-put.ensures.ok,
      c.new-document.ensures,
      c.in_ok-properties_meta.ensures,
      c.in_ok-entities.ensures,
      c.deref.ensures.value,
      c.in_ok-anes.ensures,
      c.in_ok-distinct_anes.ensures,
    )
    refl
