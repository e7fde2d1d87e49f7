use Rattle.std.proofs.Common.{◌≡◌, None, ap, sym, ◌∙◌}
use Rattle.alto_versions.specs.Front.{Version}
use Rattle.alto_answers.specs.Queries.{net_named}
use Rattle.alto_answers.proofs.queries.query_reply.Goals as goal

pub returns-in-None-clause-reply : goal.returns-in-None-clause-reply
returns-in-None-clause-reply g c =
    let rows = ap g.R.RowStore.rows c.deref.ensures ∙ ap (λ (version : Version). version.rows) c.front.view_is in
    let none : net_named c.args.front.now.rows c.args.text.now ≡ None =
    rw rows at (sym c.in_ok-net.ensures ∙ c.in-None.is) in
    rw none c.not_found.ensures.reply
