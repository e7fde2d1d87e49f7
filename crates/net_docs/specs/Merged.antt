-- The groups of a network map, its PIDs and its prefixes walked side by side: both are in the order of the PIDs.
use Rattle.std.specs.Prelude.{List, [], ◌∷◌}
use Rattle.serde_json.specs.Data.{Data, object, Members, no_members}
use Rattle.json_tree.specs.Document.{with_member}
use Rattle.alto_maps.specs.Shape.{Name}
use Rattle.net_docs.specs.Prefixes.{Owned, from_pid, group_of, leading_of}

-- members with a group for each of these PIDs, its prefixes taken from those that are left
abbrev pub with_merged : Members → List Name → Owned → Members
with_merged members [] left = members
with_merged members (pid ∷ pids) left =
    with_merged (with_member pid (group_of (leading_of pid (from_pid pid left))) members) pids (from_pid pid left)

-- the groups of PIDs, each with its prefixes
abbrev pub merged_groups : List Name → Owned → Data
merged_groups pids prefixes = object (with_merged no_members pids prefixes)
