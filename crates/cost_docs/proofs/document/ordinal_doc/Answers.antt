use Rattle.std.proofs.Common.{◌≡◌, ap, ◌∙◌}
use Rattle.std.specs.Prelude.{codes}
use Rattle.serde_json.specs.Data.{object, no_members}
use Rattle.json_tree.specs.Document.{with_member}
use Rattle.json_tree.specs.Members.{members_data}
use Rattle.alto_maps.specs.Shape.{document}
use Rattle.cost_docs.specs.CostMap.{cost_meta}
use Rattle.cost_docs.proofs.document.ordinal_doc.Goals as goal

pub returns : goal.returns
unfolding document
returns g c =
    let net = c.args.net.now in
    let metric = c.args.metric.now in
    let rows = g.R.RowStore.rows c.args.rows.now in
    let first : members_data c.put.new.self
    ≡ with_member (codes "meta") (cost_meta net metric (codes "ordinal") rows) no_members =
    c.in_ok-put.ensures.ok ∙ (λ i. with_member (codes "meta") (c.in_ok-meta.ensures i) (c.new-document.ensures i)) in
    c.into_tree.ensures
    ∙ ap object (c.in_ok-put-2.ensures.ok
    ∙ (λ i. with_member (codes "cost-map") (c.in_ok-ordinal_groups.ensures i) (first i)))
