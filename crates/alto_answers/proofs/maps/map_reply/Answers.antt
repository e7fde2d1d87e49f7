use Rattle.std.proofs.Common.{◌≡◌, None, ap, sym, ◌∙◌}
use Rattle.alto_rows.specs.Ids.{resource_named}
use Rattle.alto_versions.specs.Front.{Version}
use Rattle.alto_answers.proofs.NamedLemmas.{named_declared}
use Rattle.alto_answers.proofs.maps.map_reply.Goals as goal

pub newest_reply-requires : goal.newest_reply-requires
newest_reply-requires g c =
    let rows = ap g.R.RowStore.rows c.deref.ensures ∙ ap (λ (version : Version). version.rows) c.front.view_is in
    named_declared c.args.front.now.rows c.args.text.now c.in-Some.of (sym c.in-Some.is ∙ rw rows at c.in_ok-of.ensures)

pub returns-in-None-clause-reply : goal.returns-in-None-clause-reply
returns-in-None-clause-reply g c =
    let rows = ap g.R.RowStore.rows c.deref.ensures ∙ ap (λ (version : Version). version.rows) c.front.view_is in
    let none : resource_named c.args.front.now.rows c.args.text.now ≡ None = sym (rw rows at c.in_ok-of.ensures)
    ∙ c.in-None.is in
    rw none c.not_found.ensures.reply
