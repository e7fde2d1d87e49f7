use Rattle.std.proofs.Common.{◌≡◌, drop, filter, map}
use Rattle.json_tree.specs.Document.{members_of}
use Rattle.json_tree.specs.Members.{members_data}
use Rattle.alto_rows.specs.declared.key.Key.TheVariants as key
use Rattle.alto_rows.specs.Rows.{has_row}
use Rattle.net_docs.specs.Filter.{asked_group}
use Rattle.net_docs.proofs.PidLemmas.{with_groups}
use Rattle.net_docs.proofs.filter.groups_among.Given as goal

-- the groups that are there, and those of the declared ones among the PIDs that are left, are the groups of all
abbrev pub invariant-loop-pid : goal.invariant-loop-pid
invariant-loop-pid g l =
    let rows = g.R.RowStore.rows l.rows in
    with_groups (asked_group rows l.net l.families) (members_data l.groups)
    (filter (λ pid. has_row rows (key.Pid l.net pid)) (drop l.pid-index l.pids))
    ≡ members_of (map (λ pid. (pid, asked_group rows l.net l.families pid))
    (filter (λ pid. has_row rows (key.Pid l.net pid)) l.pids))
