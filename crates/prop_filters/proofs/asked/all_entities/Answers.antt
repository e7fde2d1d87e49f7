use Rattle.std.proofs.Common.{◌≡◌, ap, ◌∙◌}
use Rattle.std.proofs.lemmas.Result.{IfOk-weaker}
use Rattle.std.specs.List.{filter_map}
use Rattle.json_tree.specs.Document.{members_of}
use Rattle.alto_rows.specs.declared.span.Span.TheVariants as span
use Rattle.alto_rows.specs.Span.{rows_in}
use Rattle.prop_filters.specs.Filter.{entity_given}
use Rattle.prop_filters.proofs.RepeatLemmas.{entities_in_span}
use Rattle.prop_filters.proofs.asked.all_entities.Goals as goal

pub returns : goal.returns
returns g c =
    let net = c.args.net.now in
    let rows = g.R.RowStore.rows c.args.rows.now in
    let walk : c.rows_in-walk.result ≡ rows_in rows (span.Props net) =
    c.rows_in-walk.ensures ∙ ap (λ of. rows_in rows (span.Props of)) c.in_ok-clone.ensures.cases in
    IfOk-weaker c.entities_in-entities.result _ _
    (λ entities same group. same group ∙ ap (λ all. members_of (filter_map group all))
    (ap (filter_map (entity_given net)) walk ∙ entities_in_span net rows))
    c.entities_in-entities.ensures
