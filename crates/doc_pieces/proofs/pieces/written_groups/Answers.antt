use Rattle.std.proofs.Common.{◌≡◌, ◌∙◌, ap₂, sym, subst}
use Rattle.std.proofs.lemmas.Result.{IfOk-weaker}
use Rattle.std.specs.List.Sorted.{IsStrictlySortedBy}
use Rattle.alto_maps.proofs.SetLemmas.{rise-set_of}
use Rattle.alto_maps.specs.Places.{set_of}
use Rattle.doc_pieces.specs.Renewed.{renewed}
use Rattle.doc_pieces.proofs.RenewedLemmas.{groups_written}
use Rattle.doc_pieces.proofs.pieces.written_groups.Goals as goal
use Rattle.shared_list.specs.Order.{name_cmp}

pub with_written-requires : goal.with_written-requires
with_written-requires g c =
    subst (IsStrictlySortedBy name_cmp) (sym (c.deref.ensures.value ∙ c.in_ok-names.ensures))
    (rise-set_of (g.G.Grouped.map c.args.groups.now).groups)

pub returns : goal.returns
returns g c =
    let face = g.G.Grouped.map c.args.groups.now in
    let names : c.deref.result.now ≡ set_of face.groups = c.deref.ensures.value ∙ c.in_ok-names.ensures in
    IfOk-weaker c.with_written-2.result _ _
    (λ groups is. is ∙ (ap₂ (renewed face) names c.new.ensures ∙ groups_written face)) c.with_written-2.ensures.groups
