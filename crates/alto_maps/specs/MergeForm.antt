-- What leads to a map from one that differs at some places, as a merge patch (RFC 7396).
use Rattle.std.specs.Prelude.{List, [], ◌∷◌, ◌++◌, Option, Some, None, map, fold, unwrap_or, if◌then◌else◌, codes}
use Rattle.std.specs.List.{list_any}
use Rattle.serde_json.specs.Data.{Data, null, Members}
use Rattle.json_tree.specs.Document.{with_member, object_of}
use Rattle.alto_maps.specs.Shape.{Name, Shape, Face, stands, member_in}
use Rattle.alto_maps.specs.Places.{touches_meta, touched_groups, touched_members}
use Rattle.alto_maps.specs.declared.place.Place.{Place}

-- a member of an object, where it has a value
abbrev pub part : Name → Option Data → List (Name × Data)
part name None = []
part name (Some d) = (name, d) ∷ []

-- members that were there, and these after them
abbrev pub with_members : Members → List (Name × Data) → Members
with_members before ms = fold (λ before m. with_member m.0 m.1 before) before ms

-- objects in one another along a path, with this value at its end
abbrev pub nested : List Name → Data → Data
nested [] d = d
nested (name ∷ path) d = object_of ((name, nested path d) ∷ [])

-- what the meta comes to, where it is touched
abbrev pub meta_change : Shape → Face → List Place → Option Data
meta_change shape after places = if list_any touches_meta places then Some (nested shape.path after.version) else None

-- what a group comes to of which these members are touched: null where it doesn't stand, else these members, null where
-- they aren't there
abbrev pub change_of : Face → Name → List Name → Data
change_of after g members =
    if stands after g then object_of (map (λ m. (m, unwrap_or (member_in after g m) null)) members) else null

-- what a touched group comes to
abbrev pub group_change : Face → List Place → Name → Data
group_change after places g = change_of after g (touched_members g places)

-- the section, where groups are touched
abbrev pub section_change : List (Name × Data) → Option Data
section_change [] = None
section_change (change ∷ changes) = Some (object_of (change ∷ changes))

-- the merge patch
unfoldable pub merge_form : Shape → Face → List Place → Data
merge_form shape after places =
    object_of
    (part (codes "meta") (meta_change shape after places)
    ++ part shape.section (section_change (map (λ g. (g, group_change after places g)) (touched_groups places))))
