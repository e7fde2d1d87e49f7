use Rattle.std.proofs.lemmas.Result.{IfErr-weaker, IfOk-weaker}
use Rattle.alto_answers.specs.Opening.{opening_reply}
use Rattle.alto_answers.proofs.ViewLemmas.{if_ok_both, view_told}
use Rattle.alto_answers.proofs.tips.view.Goals as goal

pub returns-clause-reply : goal.returns-clause-reply
unfolding opening_reply
returns-clause-reply g c =
    if_ok_both c.reply_or_error.result
    (λ reply made known book legal stands.
    view_told c.open-view.result _ reply made known
    (IfOk-weaker c.open-view.result _ _ (λ view at. at book legal stands) c.open-view.ensures.ok)
    (IfErr-weaker c.open-view.result _ _ (λ why at other. at other book legal stands) c.open-view.ensures.err))
    c.reply_or_error.ensures.reply c.reply_or_error.ensures.known
