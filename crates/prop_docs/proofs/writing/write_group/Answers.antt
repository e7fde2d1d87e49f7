use Rattle.std.proofs.Common.{◌≡◌, rules, ap, subst, ◌∙◌}
use Rattle.std.proofs.lemmas.Result.{on_ok_weaker}
use Rattle.std.specs.List.Sorted.{IsStrictlySortedBy}
use Rattle.alto_maps.specs.Shape.{group_object}
use Rattle.alto_maps.specs.Writing.{AddsValue}
use Rattle.alto_rows.specs.Order.{name_cmp}
use Rattle.net_docs.proofs.WritingLemmas.{named_value}
use Rattle.prop_docs.specs.PropertyMap.{prop_face}
use Rattle.prop_docs.specs.Properties.{names_of, props_object, props_shown}
use Rattle.prop_docs.proofs.GroupLemmas.{group_shown}
use Rattle.prop_docs.proofs.writing.write_group.Goals as goal

pub write_properties-requires : goal.write_properties-requires
write_properties-requires g c = rw c.deref.ensures.value c.in_ok-properties.ensures.rise

pub returns : goal.returns
returns g c =
    let net = c.args.net.now in
    let text = c.args.text.now in
    let rows = g.R.RowStore.rows c.args.rows.now in
    let all : c.in_ok-properties.properties.items ≡ props_shown rows net text = c.in_ok-properties.ensures.all in
    let whole : props_object c.deref.result.now ≡ group_object (prop_face net rows) text =
    ap props_object (c.deref.ensures.value ∙ all)
    ∙ group_shown rows net text (subst (λ props. IsStrictlySortedBy name_cmp (names_of props)) all
    c.in_ok-properties.ensures.rise) in
    on_ok_weaker c.write_properties.result
    (λ added. named_value text (group_object (prop_face net rows) text) c.args.out.now c.key.new.self
    c.write_properties.new.out (search rules) (search rules)
    (subst (λ d. AddsValue d c.key.new.self c.write_properties.new.out) whole added))
    c.write_properties.ensures
