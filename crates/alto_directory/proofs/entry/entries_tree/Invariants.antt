use Rattle.std.proofs.Common.{◌≡◌, map}
use Rattle.json_tree.specs.Document.{members_of}
use Rattle.json_tree.specs.Members.{members_data}
use Rattle.alto_maps.specs.MergeForm.{with_members}
use Rattle.alto_directory.specs.Entry.{by_id, shown}
use Rattle.alto_directory.proofs.entry.entries_tree.Given as goal

-- the members so far, with those of the entries that are left, are all
abbrev pub invariant-loop-entry : goal.invariant-loop-entry
invariant-loop-entry l =
    with_members (members_data l.members) (map by_id (map shown l.entry-iterator.rest.items))
    ≡ members_of (map by_id (map shown l.fn.entries.items))
