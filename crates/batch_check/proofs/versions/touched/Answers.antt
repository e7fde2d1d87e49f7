-- What depends on the resources that the writes are part of is what they touch.
use Rattle.std.proofs.lemmas.Result.{IfOk-weaker}
use Rattle.batch_check.proofs.TouchedLemmas.{has_touched}
use Rattle.batch_check.proofs.versions.touched.Goals as goal

pub returns : goal.returns
returns g c =
    IfOk-weaker c.all_dependents.result _ _
    (λ all joined. has_touched (g.R.RowStore.rows c.args.rows.now) c.args.writes.now c.in_ok-parts.parts all
    c.requires.sorted c.in_ok-parts.ensures joined)
    c.all_dependents.ensures
