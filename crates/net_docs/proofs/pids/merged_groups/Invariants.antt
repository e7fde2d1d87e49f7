use Rattle.std.proofs.Common.{◌≡◌, drop}
use Rattle.json_tree.specs.Members.{members_data}
use Rattle.serde_json.specs.Data.{no_members}
use Rattle.net_docs.specs.Merged.{with_merged}
use Rattle.net_docs.proofs.pids.merged_groups.Given as goal

-- the groups that are there, and those of the PIDs that are left, with the prefixes that are left, are the groups of
-- all
abbrev pub invariant-loop-pid : goal.invariant-loop-pid
invariant-loop-pid l =
    with_merged (members_data l.groups) (drop l.pid-index l.pids) l.left ≡ with_merged no_members l.pids l.prefixes
