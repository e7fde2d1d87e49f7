-- The networks of the prefixes that the writes give tell.
use Rattle.batch_check.proofs.OwnerLemmas.{one_told}
use Rattle.batch_check.proofs.owners.keep_one_pid.Goals as goal

pub returns : goal.returns
returns g c =
    one_told (g.R.RowStore.rows c.args.rows.now) (g.R.RowStore.rows c.args.next.now) c.args.writes.now
    c.in_ok-owners.owners c.in_ok-nets.nets
    c.in_ok-some_shared.field-0 c.requires.good c.requires.next c.in_ok-owners.ensures c.in_ok-nets.ensures
    c.in_ok-some_shared.ensures
