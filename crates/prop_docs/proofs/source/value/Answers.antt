use Rattle.std.proofs.Common.{ap, ◌∙◌}
use Rattle.std.proofs.lemmas.Result.{IfOk-weaker}
use Rattle.prop_docs.specs.Properties.{is_found}
use Rattle.prop_docs.proofs.SourceLemmas.{member_found, none_member, none_stands}
use Rattle.prop_docs.proofs.source.value.Goals as goal

pub returns-in-Some : goal.returns-in-Some
returns-in-Some g c =
    IfOk-weaker c.value_owned.result _ _
    (λ value is.
    is
    ∙ member_found (g.R.RowStore.rows c.args.rows.now) c.args.net.now c.args.text.now c.args.name.now
    c.in-Some.entity c.requires
    (λ other fits. c.in_ok-entity.ensures other fits ∙ ap (λ found. is_found found other) c.in-Some.is))
    c.value_owned.ensures

pub returns-in-None : goal.returns-in-None
returns-in-None g c =
    let net = c.args.net.now in
    let text = c.args.text.now in
    let rows = g.R.RowStore.rows c.args.rows.now in
    none_member rows net text c.args.name.now
    (none_stands rows net text c.requires (λ other fits. c.in_ok-entity.ensures other fits
    ∙ ap (λ found. is_found found other) c.in-None.is))
