use Rattle.std.proofs.Common.{◌≡◌, map, take}
use Rattle.json_tree.specs.Document.{members_of}
use Rattle.json_tree.specs.Members.{members_data}
use Rattle.alto_directory.specs.Entries.{forms_of}
use Rattle.alto_directory.proofs.capabilities.change_types.Given as goal

-- the members so far are those of the ids so far
abbrev pub invariant-loop-id : goal.invariant-loop-id
invariant-loop-id l = members_data l.forms ≡ members_of (map forms_of (take l.id-index l.ids))
