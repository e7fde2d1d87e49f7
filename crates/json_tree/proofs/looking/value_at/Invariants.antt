use Rattle.std.proofs.Common.{◌≡◌}
use Rattle.serde_json.specs.Find.{get_member}
use Rattle.json_tree.specs.Tree.{entries_data}
use Rattle.json_tree.proofs.looking.value_at.Given as goal

-- the members that are left have the value that all have
abbrev pub invariant-loop-key : goal.invariant-loop-key
invariant-loop-key l = get_member l.name (entries_data l.key-iterator)
    ≡ get_member l.name (entries_data l.members.entries)
