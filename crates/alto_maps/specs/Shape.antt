-- What every ALTO map is (RFC 7285, section 11.2; RFC 9240, section 7): an object with a meta and one section of
-- groups, each group an object of members.
use Rattle.std.specs.Prelude.{ℕ, nat_eq, List, [], ◌∷◌, Bool, ◌&&◌, Option, Some, None, map, if◌then◌else◌, codes}
use Rattle.std.specs.List.{list_any}
use Rattle.std.specs.Cmp.Lexicographic.{pointwise}
use Rattle.serde_json.specs.Data.{Data}
use Rattle.json_tree.specs.Document.{object_of}

abbrev pub Name : Type 0
Name = List ℕ

-- two names are one
abbrev pub same_name : Name → Name → Bool
same_name a b = pointwise nat_eq a b

-- a kind of map: the name of its section, and where its meta tells which version it is of
pub record Shape : Type 0 where
  pub section : Name
  pub path : List Name

-- a map as it is at some rows: its meta, the version that this tells, the groups that stand, and the members of each
pub record Face : Type 0 where
  pub meta : Data
  pub version : Data
  pub groups : List Name
  pub members : Name → List Name
  pub value : Name → Name → Data

-- a group stands in the map
abbrev pub stands : Face → Name → Bool
stands face g = list_any (same_name g) face.groups

-- a group's object
abbrev pub group_object : Face → Name → Data
group_object face g = object_of (map (λ m. (m, face.value g m)) (face.members g))

-- the object of a group, where it stands
abbrev pub group_in : Face → Name → Option Data
group_in face g = if stands face g then Some (group_object face g) else None

-- the value of a group's member, where both stand
abbrev pub member_in : Face → Name → Name → Option Data
member_in face g m = if stands face g && list_any (same_name m) (face.members g) then Some (face.value g m) else None

-- the section
abbrev pub section_object : Face → Data
section_object face = object_of (map (λ g. (g, group_object face g)) face.groups)

-- the map
unfoldable pub document : Shape → Face → Data
document shape face = object_of ((codes "meta", face.meta) ∷ (shape.section, section_object face) ∷ [])
