-- The end of the writes tells.
use Rattle.std.proofs.Common.{◌∙◌}
use Rattle.batch_check.proofs.EndLemmas.{ends_tell}
use Rattle.batch_check.proofs.versions.keeps_versions.Goals as goal

pub returns : goal.returns
returns g c =
    rw c.ends_in.ensures (ends_tell (g.R.RowStore.rows c.args.rows.now) c.args.writes.now _ (c.deref.ensures.value
    ∙ c.in_ok-versions.ensures))
