use Rattle.std.proofs.Common.{◌∙◌, sym, subst}
use Rattle.std.specs.List.{filter_map}
use Rattle.std.specs.List.Sorted.{IsStrictlySortedBy}
use Rattle.alto_maps.proofs.SetLemmas.{rise-set_of}
use Rattle.alto_maps.specs.Places.{group_of}
use Rattle.doc_pieces.proofs.renewing.renewed_groups.Goals as goal
use Rattle.shared_list.specs.Order.{name_cmp}

pub with_written-requires : goal.with_written-requires
with_written-requires g c =
    subst (IsStrictlySortedBy name_cmp) (sym (c.deref.ensures.value ∙ c.in_ok-touched.ensures))
    (rise-set_of (filter_map group_of c.args.places.now))
