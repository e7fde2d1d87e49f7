use Rattle.std.proofs.Common.{◌≡◌, drop}
use Rattle.std.specs.List.{filter_map}
use Rattle.json_tree.specs.Members.{members_data}
use Rattle.prop_filters.specs.Filter.{member_of, object_if_any}
use Rattle.prop_filters.proofs.GroupLemmas.{outcome}
use Rattle.prop_filters.proofs.filter.group.Given as goal

-- the members that are there, and those of the names that are left, come to the whole object
abbrev pub invariant-loop-name : goal.invariant-loop-name
invariant-loop-name g l =
    let member = member_of (g.R.RowStore.rows l.rows) l.net l.entity in
    outcome l.any (members_data l.group) (filter_map member (drop l.name-index l.names))
    ≡ object_if_any (filter_map member l.names)
