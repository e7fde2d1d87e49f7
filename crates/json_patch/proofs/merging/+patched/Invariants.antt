use Rattle.std.proofs.Common.{◌≡◌}
use Rattle.json_tree.specs.Order.{AreInOrder}
use Rattle.json_tree.specs.Tree.{entries_data}
use Rattle.json_patch.specs.Merge.{members_patched}
use Rattle.json_patch.proofs.merging.+patched.Given as goal

-- what is left of the patch makes of the members so far what the whole patch makes of the first ones
abbrev pub invariant-patch_members-loop-name : goal.invariant-patch_members-loop-name
invariant-patch_members-loop-name l =
    record {
      members : members_patched (entries_data l.name-iterator) (entries_data l.members.entries)
          ≡ members_patched (entries_data l.changes.entries) (entries_data l.initial.members.entries);
      ordered : AreInOrder (entries_data l.members.entries);
    }
