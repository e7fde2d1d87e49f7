-- The places of a map that a change touches.
use Rattle.std.specs.Prelude.{Bool, true, false, ◌&&◌, List, [], Option, Some, None, fold, if◌then◌else◌}
use Rattle.std.specs.List.{filter_map}
use Rattle.std.specs.BTreeSet.{insert_key}
use Rattle.std.specs.Cmp.Lexicographic.{slice_cmp}
use Rattle.std.specs.Ordering.{nat_cmp}
use Rattle.alto_maps.specs.Shape.{Name, same_name}
use Rattle.alto_maps.specs.declared.place.Place.{Place}
use Rattle.alto_maps.specs.declared.place.Place.TheVariants as place

-- any part of the map
abbrev pub touches_map : Place → Bool
touches_map place.Nowhere = false
touches_map place.Meta = true
touches_map (place.Group h) = true
touches_map (place.Member h n) = true

-- the version in the meta
abbrev pub touches_meta : Place → Bool
touches_meta place.Nowhere = false
touches_meta place.Meta = true
touches_meta (place.Group h) = false
touches_meta (place.Member h n) = false

-- this group, as a whole or in a member
abbrev pub touches_group : Name → Place → Bool
touches_group g place.Nowhere = false
touches_group g place.Meta = false
touches_group g (place.Group h) = same_name g h
touches_group g (place.Member h n) = same_name g h

-- this member of this group
abbrev pub touches_member : Name → Name → Place → Bool
touches_member g m place.Nowhere = false
touches_member g m place.Meta = false
touches_member g m (place.Group h) = false
touches_member g m (place.Member h n) = same_name g h && same_name m n

-- the group that a place is in
abbrev pub group_of : Place → Option Name
group_of place.Nowhere = None
group_of place.Meta = None
group_of (place.Group h) = Some h
group_of (place.Member h n) = Some h

-- the member of this group that a place is
abbrev pub member_of : Name → Place → Option Name
member_of g place.Nowhere = None
member_of g place.Meta = None
member_of g (place.Group h) = None
member_of g (place.Member h n) = if same_name g h then Some n else None

-- the distinct names among these, in byte order
unfoldable pub set_of : List Name → List Name
set_of names = fold (λ set name. insert_key (slice_cmp nat_cmp) set name) [] names

-- the groups that places touch, in byte order
abbrev pub touched_groups : List Place → List Name
touched_groups places = set_of (filter_map group_of places)

-- the members of a group that they touch, in byte order
abbrev pub touched_members : Name → List Place → List Name
touched_members g places = set_of (filter_map (member_of g) places)
