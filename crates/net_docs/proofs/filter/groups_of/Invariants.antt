use Rattle.std.proofs.Common.{◌≡◌, map, take}
use Rattle.json_tree.specs.Document.{members_of}
use Rattle.json_tree.specs.Members.{members_data}
use Rattle.net_docs.specs.Filter.{asked_group}
use Rattle.net_docs.proofs.filter.groups_of.Given as goal

-- the groups so far are those of the PIDs so far
abbrev pub invariant-loop-pid : goal.invariant-loop-pid
invariant-loop-pid g l =
    let rows = g.R.RowStore.rows l.rows in
    members_data l.groups
    ≡ members_of (map (λ pid. (pid, asked_group rows l.net l.families pid)) (take l.pid-index l.pids))
