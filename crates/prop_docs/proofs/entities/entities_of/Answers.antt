use Rattle.std.proofs.Common.{◌≡◌, ap, ◌∙◌}
use Rattle.std.proofs.lemmas.Result.{IfOk-weaker}
use Rattle.std.specs.List.{filter_map}
use Rattle.alto_rows.specs.declared.span.Span.TheVariants as span
use Rattle.alto_rows.specs.Span.{rows_in}
use Rattle.alto_maps.specs.Places.{set_of}
use Rattle.prop_docs.specs.PropertyMap.{entity_in}
use Rattle.prop_docs.proofs.EntityLemmas.{all_texts}
use Rattle.prop_docs.proofs.entities.entities_of.Goals as goal

pub returns : goal.returns
returns g c =
    let net = c.args.net.now in
    let rows = g.R.RowStore.rows c.args.rows.now in
    let walk : c.rows_in-walk.result ≡ rows_in rows (span.Props net) =
    c.rows_in-walk.ensures ∙ ap (λ of. rows_in rows (span.Props of)) c.in_ok-clone.ensures.cases in
    IfOk-weaker c.entities_in-texts.result _ _
    (λ texts found. found ∙ (ap (λ left. set_of (filter_map (entity_in net) left)) walk ∙ all_texts net rows))
    c.entities_in-texts.ensures
