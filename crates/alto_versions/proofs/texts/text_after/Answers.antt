use Rattle.std.proofs.Common.{sym, ◌∙◌}
use Rattle.std.specs.Arc.{arc_value}
use Rattle.std.proofs.lemmas.Result.{IfOk-weaker}
use Rattle.alto_versions.proofs.TextLemmas.{differ_written}
use Rattle.alto_versions.proofs.texts.text_after.Goals as goal

pub returns : goal.returns
returns g c =
    let rows = g.R.RowStore.rows c.args.rows.now in
    IfOk-weaker c.text_at.result _ _
    (λ after is before led had.
    let own = rw c.in-Some.is at had in
    let differ = differ_written before rows c.args.writes.now c.args.of.now (arc_value c.in-Some.text.now) led
    c.requires.good c.requires.declared (sym c.writes_epoch.ensures ∙ c.if-writes_epoch.false) own in
    is before (rw c.requires.keys differ) own.whole)
    c.text_at.ensures
