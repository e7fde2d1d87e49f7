use Rattle.std.specs.Prelude.{filter}
use Rattle.alto_rows.specs.declared.key.Key.TheVariants as key
use Rattle.alto_rows.specs.Rows.{has_row}
use Rattle.net_docs.specs.Filter.{asked_group}
use Rattle.net_docs.proofs.PidLemmas.{groups_of_all}
use Rattle.net_docs.proofs.filter.groups_among.Goals as goal

pub loop-pid-init : goal.loop-pid-init
loop-pid-init g c =
    let net = c.args.net.now in
    let rows = g.R.RowStore.rows c.args.rows.now in
    rw c.new-groups.ensures
    (groups_of_all (asked_group rows net c.args.families.now)
    (filter (λ pid. has_row rows (key.Pid net pid)) c.args.pids.now))
