-- What the rows name is declared, so who has a prefix tells.
use Rattle.std.proofs.lemmas.Result.{IfOk-weaker}
use Rattle.batch_check.proofs.BatchLemmas.{good_decided}
use Rattle.batch_check.proofs.good.keeps_good.Goals as goal

pub returns : goal.returns
returns g c =
    IfOk-weaker c.keep_one_pid.result _ _
    (λ one decides. good_decided (g.R.RowStore.rows c.args.rows.now) (g.R.RowStore.rows c.args.next.now)
    c.args.writes.now one c.requires.good c.requires.fit
    c.requires.versions c.requires.next (c.in_ok-keep_declared.ensures.0 c.if-not-branch.false) decides)
    c.keep_one_pid.ensures
