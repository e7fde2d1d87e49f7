-- What leads to a map from one that differs at some places, as operations (RFC 6902).
use Rattle.std.specs.Prelude.{List, [], ◌∷◌, ◌++◌, Bool, true, false, Option, Some, None, map, if◌then◌else◌, codes}
use Rattle.std.specs.List.{list_any, flat_map}
use Rattle.serde_json.specs.Data.{Data}
use Rattle.json_patch.specs.Operations.{Operation, add, remove, replace}
use Rattle.alto_maps.specs.Shape.{Name, Shape, Face, stands, group_object, member_in}
use Rattle.alto_maps.specs.Places.{touches_meta, touched_groups, touched_members}
use Rattle.alto_maps.specs.declared.place.Place.{Place}

-- an operation on a member
abbrev pub under : Name → Operation → Operation
under name operation = record { path = name ∷ operation.path; action = operation.action }

-- what a member's values before and after come to: it is added where it is there, and removed where it alone was
abbrev pub on_member : Name → Option Data → Option Data → List Operation
on_member m old (Some d) = record { path = m ∷ []; action = add d } ∷ []
on_member m (Some old) None = record { path = m ∷ []; action = remove } ∷ []
on_member m None None = []

-- these members of a group that stood and stands
abbrev pub on_members : Face → Face → Name → List Name → List Operation
on_members before after g members = flat_map (λ m. on_member m (member_in before g m) (member_in after g m)) members

-- a touched group, by whether it stood and stands
abbrev pub by_standing : Name → Data → List Operation → Bool → Bool → List Operation
by_standing g new within true true = map (under g) within
by_standing g new within true false = record { path = g ∷ []; action = remove } ∷ []
by_standing g new within false true = record { path = g ∷ []; action = add new } ∷ []
by_standing g new within false false = []

-- the operations on a group of which these members are touched
abbrev pub on_touched : Face → Face → Name → List Name → List Operation
on_touched before after g members =
    by_standing g (group_object after g) (on_members before after g members) (stands before g) (stands after g)

-- the operations on a touched group
abbrev pub on_group : Face → Face → List Place → Name → List Operation
on_group before after places g = on_touched before after g (touched_members g places)

-- the operation on the meta, where it is touched
abbrev pub on_meta : Shape → Face → List Place → List Operation
on_meta shape after places =
    if list_any touches_meta places
    then record { path = codes "meta" ∷ shape.path; action = replace after.version } ∷ []
    else []

-- the operations: the version first, then the touched groups in byte order, each with its touched members in byte order
unfoldable pub operation_form : Shape → Face → Face → List Place → List Operation
operation_form shape before after places =
    on_meta shape after places
    ++ map (under shape.section) (flat_map (on_group before after places) (touched_groups places))
