-- The groups that places touch, each with its touched members.
use Rattle.std.specs.Prelude.{List, Option, Some, None, map}
use Rattle.std.specs.BTreeSet.{BTreeSet, insert_key}
use Rattle.std.specs.Cmp.Lexicographic.{slice_cmp}
use Rattle.std.specs.Ordering.{nat_cmp}
use Rattle.alto_maps.specs.Shape.{Name}
use Rattle.alto_maps.specs.Places.{touched_groups, touched_members}
use Rattle.alto_maps.specs.declared.place.Place.{Place}

-- a group, and members of it
abbrev pub Touched : Type 0
Touched = Name × List Name

-- the touched groups in byte order, each with its touched members in byte order
abbrev pub touched_parts : List Place → List Touched
touched_parts places = map (λ g. (g, touched_members g places)) (touched_groups places)

-- the groups of a map, each with its set of members
abbrev pub parts_of : List (Name × BTreeSet Name) → List Touched
parts_of groups = map (λ group. (group.0, group.1.keys)) groups

-- names in byte order with one more, if there is one
abbrev pub with_option : List Name → Option Name → List Name
with_option names (Some name) = insert_key (slice_cmp nat_cmp) names name
with_option names None = names
