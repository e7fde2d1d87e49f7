use Rattle.std.proofs.Common.{◌≡◌, drop}
use Rattle.std.specs.List.{filter_map}
use Rattle.json_tree.specs.Document.{members_of}
use Rattle.json_tree.specs.Members.{members_data}
use Rattle.prop_filters.specs.Filter.{group_of}
use Rattle.prop_filters.proofs.GroupLemmas.{with_members}
use Rattle.prop_filters.proofs.filter.groups_among.Given as goal

-- the groups that are there, and those of the entities that are left, are all groups
abbrev pub invariant-loop-entity : goal.invariant-loop-entity
invariant-loop-entity g l =
    let group = group_of (g.R.RowStore.rows l.rows) l.net l.names in
    with_members (members_data l.groups) (filter_map group (drop l.entity-index l.entities))
    ≡ members_of (filter_map group l.entities)
