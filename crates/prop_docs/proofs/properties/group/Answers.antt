use Rattle.std.proofs.Common.{◌≡◌, ap, subst, ◌∙◌}
use Rattle.std.proofs.lemmas.Result.{IfOk-weaker}
use Rattle.std.specs.List.Sorted.{IsStrictlySortedBy}
use Rattle.alto_rows.specs.Order.{name_cmp}
use Rattle.prop_docs.specs.Properties.{names_of, props_object, props_shown}
use Rattle.prop_docs.proofs.GroupLemmas.{group_shown}
use Rattle.prop_docs.proofs.properties.group.Goals as goal

pub returns : goal.returns
returns g c =
    let net = c.args.net.now in
    let text = c.args.text.now in
    let rows = g.R.RowStore.rows c.args.rows.now in
    let all : c.in_ok-properties.properties.items ≡ props_shown rows net text = c.in_ok-properties.ensures.all in
    IfOk-weaker c.object_of.result _ _
    (λ tree is. is ∙ (ap props_object (c.deref.ensures.value ∙ all)
    ∙ group_shown rows net text (subst (λ props. IsStrictlySortedBy name_cmp (names_of props)) all
    c.in_ok-properties.ensures.rise)))
    c.object_of.ensures
