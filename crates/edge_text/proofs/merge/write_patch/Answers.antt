use Rattle.std.proofs.Common.{rules, sym, subst}
use Rattle.std.proofs.lemmas.Result.{on_ok_weaker}
use Rattle.serde_json.specs.Data.{Data}
use Rattle.alto_maps.specs.Writing.{AddsValue}
use Rattle.cost_docs.specs.CostMap.{cost_face, cost_shape}
use Rattle.edge_text.proofs.PlaceLemmas.{places_of}
use Rattle.edge_text.proofs.WrittenLemmas.{form_is, patch_written}
use Rattle.edge_text.proofs.merge.write_patch.Goals as goal

pub returns : goal.returns
returns g c =
    let face = cost_face c.args.net.now c.args.metric.now (g.R.RowStore.rows c.args.rows.now) in
    let places = places_of c.args.net.now c.args.metric.now c.args.keys.now in
    on_ok_weaker c.end_object.result
    (λ closed.
    subst (λ (d : Data). AddsValue d c.args.out.now c.end_object.new.self) (sym (form_is cost_shape face places))
    (patch_written _ _ c.args.out.now c.begin_object.new.self c.write_section.new.out c.write_meta.new.out
    c.end_object.new.self (search rules) (search rules)
    c.in_ok-write_section.ensures c.in_ok-write_meta.ensures closed (search rules)))
    c.end_object.ensures.ok
