use Rattle.std.proofs.Common.{ap, refl, ◌∙◌}
use Rattle.std.specs.Prelude.{Ok, Err}
use Rattle.std.proofs.lemmas.Result.{err_from_is_err_and}
use Rattle.alto_versions.specs.Front.{Version}
use Rattle.alto_answers.proofs.filters.endpoints.Goals as goal

pub returns-in_err-ask-clause-err : goal.returns-in_err-ask-clause-err
returns-in_err-ask-clause-err g c =
    let rows = ap g.R.RowStore.rows c.deref.ensures ∙ ap (λ (version : Version). version.rows) c.front.view_is in
    let fault = err_from_is_err_and c.from_residual.result c.from_residual.ensures.1 in
    rw (fault.1, fault.2) (λ known. (Err c.in_err-ask.field-0.0, rw rows at (c.in_err-ask.ensures.err known), refl))

pub returns-clause-ok : goal.returns-clause-ok
returns-clause-ok g c =
    let rows = ap g.R.RowStore.rows c.deref.ensures ∙ ap (λ (version : Version). version.rows) c.front.view_is in
    (Ok c.in_ok-ask.ask, rw rows at c.in_ok-ask.ensures.ok, rw c.in_ok-reply.ensures.reply refl)
