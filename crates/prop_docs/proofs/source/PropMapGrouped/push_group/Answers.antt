use Rattle.std.proofs.Common.{◌≡◌, ◌∙◌, ◌++◌, ap, subst}
use Rattle.std.proofs.lemmas.Result.{on_ok_weaker}
use Rattle.std.specs.Prelude.{OnOk}
use Rattle.alto_maps.specs.Shape.{Name, group_object}
use Rattle.alto_rows.specs.Rows.{Rows}
use Rattle.doc_pieces.specs.Pieces.{member_text}
use Rattle.prop_docs.specs.PropertyMap.{prop_face}
use Rattle.prop_docs.proofs.source.PropMapGrouped.push_group.Goals as goal

pub returns : goal.returns
returns g c =
    let name = c.args.name.now in
    subst
    (λ (map : Rows × Name). OnOk c.push.result
    (c.push.new.self ≡ c.args.out.now ++ member_text name (group_object (prop_face map.1 map.0) name)))
    c.self.view_is
    (on_ok_weaker c.push.result
    (λ is. is ∙ ap (λ text. c.args.out.now ++ text) (c.deref.ensures.value ∙ c.in_ok-group_text.ensures))
    c.push.ensures)
