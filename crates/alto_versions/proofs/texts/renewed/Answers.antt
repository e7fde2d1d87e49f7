use Rattle.std.proofs.Common.{ap, ℕ, List, ◌∙◌}
use Rattle.std.proofs.lemmas.Result.{IfOk-weaker}
use Rattle.alto_rows.specs.declared.resource.Resource.TheVariants as resource
use Rattle.alto_rows.specs.Rows.{Rows}
use Rattle.cost_docs.specs.CostMap.{cost_face}
use Rattle.net_docs.specs.NetworkMap.{net_face}
use Rattle.prop_docs.specs.PropertyMap.{prop_face}
use Rattle.alto_versions.proofs.TextLemmas.{pieces_led}
use Rattle.alto_versions.proofs.texts.renewed.Goals as goal

pub returns-in_ok-places-in-Net : goal.returns-in_ok-places-in-Net
returns-in_ok-places-in-Net g c =
    IfOk-weaker c.renewed.result _ _
    (λ later is.
    pieces_led c.args.of.now (resource.Net c.in-Net.net) (g.R.RowStore.rows c.args.rows.now) c.args.keys.now
    c.deref.result.now _ c.args.text.now later c.in-Net.is (c.deref.ensures.value ∙ c.in_ok-places-in-Net.ensures)
    (ap (λ (map : Rows × List ℕ). net_face map.1 map.0) c.new-map.ensures) is)
    c.renewed.ensures

pub returns-in_ok-places-in-Cost : goal.returns-in_ok-places-in-Cost
returns-in_ok-places-in-Cost g c =
    IfOk-weaker c.renewed-in-Cost.result _ _
    (λ later is.
    pieces_led c.args.of.now (resource.Cost c.in-Cost.net c.in-Cost.metric) (g.R.RowStore.rows c.args.rows.now)
    c.args.keys.now c.deref-in-Cost.result.now _ c.args.text.now later c.in-Cost.is
    (c.deref-in-Cost.ensures.value ∙ c.in_ok-places-in-Cost.ensures)
    (ap (λ (map : Rows × List ℕ × List ℕ). cost_face map.1 map.2 map.0) c.new-map-in-Cost.ensures) is)
    c.renewed-in-Cost.ensures

pub returns-in_ok-places-in-Prop : goal.returns-in_ok-places-in-Prop
returns-in_ok-places-in-Prop g c =
    IfOk-weaker c.renewed-in-Prop.result _ _
    (λ later is.
    pieces_led c.args.of.now (resource.Prop c.in-Prop.net) (g.R.RowStore.rows c.args.rows.now) c.args.keys.now
    c.deref-in-Prop.result.now _ c.args.text.now later c.in-Prop.is
    (c.deref-in-Prop.ensures.value ∙ c.in_ok-places-in-Prop.ensures)
    (ap (λ (map : Rows × List ℕ). prop_face map.1 map.0) c.new-map-in-Prop.ensures) is)
    c.renewed-in-Prop.ensures
