use Rattle.std.proofs.Common.{◌≡◌, take}
use Rattle.json_tree.specs.Document.{members_of}
use Rattle.json_tree.specs.Members.{members_data}
use Rattle.prop_docs.specs.Properties.{shown_values}
use Rattle.prop_docs.proofs.properties.object_of.Given as goal

-- the members so far are those of the properties so far
abbrev pub invariant-loop-property : goal.invariant-loop-property
invariant-loop-property l = members_data l.members ≡ members_of (shown_values (take l.property-index l.properties))
