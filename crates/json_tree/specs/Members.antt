-- The members that an object in the making holds.
use Rattle.serde_json.specs.Data as json
use Rattle.json_tree.specs.Tree.{entries_data}
use Rattle.json_tree.specs.declared.members.Members.{Members}

-- the members so far, in the byte order of their names
unfoldable pub members_data : Members → json.Members
members_data members = entries_data members.map.entries
