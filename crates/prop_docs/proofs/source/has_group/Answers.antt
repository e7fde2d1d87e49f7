use Rattle.std.proofs.Common.{ap, sym, ◌∙◌, nat_lt}
use Rattle.alto_rows.specs.Span.{count_in}
use Rattle.prop_docs.specs.Properties.{is_found}
use Rattle.prop_docs.proofs.SourceLemmas.{found_stands, none_stands}
use Rattle.prop_docs.proofs.source.has_group.Goals as goal

pub returns-in_ok-props_span-in-Some : goal.returns-in_ok-props_span-in-Some
returns-in_ok-props_span-in-Some g c =
    let rows = g.R.RowStore.rows c.args.rows.now in
    c.has_row_in.ensures
    ∙ ap (λ of. nat_lt 0 (count_in rows of)) c.in_ok-props_span-in-Some.ensures
    ∙ found_stands rows c.args.net.now c.args.text.now c.in-Some.entity c.requires
    (λ other fits. c.in_ok-entity.ensures other fits ∙ ap (λ found. is_found found other) c.in-Some.is)

pub returns-in-None : goal.returns-in-None
returns-in-None g c =
    sym
    (none_stands (g.R.RowStore.rows c.args.rows.now) c.args.net.now c.args.text.now c.requires
    (λ other fits. c.in_ok-entity.ensures other fits ∙ ap (λ found. is_found found other) c.in-None.is))
