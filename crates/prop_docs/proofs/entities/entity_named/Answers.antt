use Rattle.std.proofs.Common.{sym, ap, ◌∙◌}
use Rattle.std.proofs.lemmas.Result.{IfOk-weaker}
use Rattle.prop_docs.specs.Properties.{is_found}
use Rattle.prop_docs.proofs.TextLemmas.{none_named, one_named, reads_as}
use Rattle.prop_docs.proofs.entities.entity_named.Goals as goal

pub returns-in-Some : goal.returns-in-Some
returns-in-Some c =
    let net = c.args.net.now in
    let text = c.args.text.now in
    let reads = reads_as net text c.as_bytes.result.now _ _ (c.as_bytes.ensures.value ∙ c.as_str.ensures.value)
    c.in-Some.is c.in_ok-entity.ensures in
    IfOk-weaker c.if_text_of.result _ _ (λ found is. λ other fits. one_named net text c.in-Some.entity reads other fits
    ∙ ap (λ one. is_found one other) (sym is)) c.if_text_of.ensures

pub returns-in-None : goal.returns-in-None
returns-in-None c =
    let net = c.args.net.now in
    let text = c.args.text.now in
    none_named net text (reads_as net text c.as_bytes.result.now _ _ (c.as_bytes.ensures.value ∙ c.as_str.ensures.value)
    c.in-None.is c.in_ok-entity.ensures)
