-- The property map of a network (RFC 9240, section 8): each entity that has properties, with their names and values.
use Rattle.std.specs.Prelude.{Bool, ◌&&◌, List, [], ◌∷◌, Option, Some, None, codes, if◌then◌else◌}
use Rattle.std.specs.List.{filter_map}
use Rattle.serde_json.specs.Data.{Data, null, number, string, unsigned}
use Rattle.json_tree.specs.Document.{object_of}
use Rattle.alto_rows.specs.declared.entity.Entity.{Entity}
use Rattle.alto_rows.specs.declared.key.Key.{Key}
use Rattle.alto_rows.specs.declared.key.Key.TheVariants as key
use Rattle.alto_rows.specs.declared.resource.Resource.TheVariants as resource
use Rattle.alto_rows.specs.declared.value.Value.{Value}
use Rattle.alto_rows.specs.declared.value.Value.TheVariants as value
use Rattle.alto_rows.specs.Entities.{entity_text}
use Rattle.alto_rows.specs.Order.{same_name}
use Rattle.alto_rows.specs.Rows.{Rows}
use Rattle.alto_maps.specs.Shape.{Name, Shape, Face, document}
use Rattle.alto_maps.specs.Places.{set_of}
use Rattle.alto_maps.specs.declared.place.Place.{Place}
use Rattle.alto_maps.specs.declared.place.Place.TheVariants as place
use Rattle.net_docs.specs.NetworkMap.{dependent_tags}

-- the text is what is written of this entity of a network (section 5.1.3)
abbrev pub is_text_of : Name → Name → Entity → Bool
is_text_of net text entity = same_name text (entity_text net entity)

-- the text of the entity that a row gives a property
abbrev pub entity_in : Name → Key × Value → Option Name
entity_in net (key.Prop of entity name, v) =
    if same_name net of then Some (entity_text net entity) else None
entity_in net _ = None

-- the texts of the entities that have properties, in byte order
abbrev pub entities_of : Rows → Name → List Name
entities_of rows net = set_of (filter_map (entity_in net) rows)

-- the name of the property that a row gives the entity of this text
abbrev pub property_in : Name → Name → Key × Value → Option Name
property_in net text (key.Prop of entity name, v) =
    if same_name net of && is_text_of net text entity then Some name else None
property_in net text _ = None

-- the names of the properties of the entity of this text, in byte order
abbrev pub properties_of : Rows → Name → Name → List Name
properties_of rows net text = filter_map (property_in net text) rows

-- the value that a row gives this property of the entity of this text
abbrev pub value_in : Name → Name → Name → Key × Value → Option Value
value_in net text name (key.Prop of entity other, v) =
    if same_name net of && is_text_of net text entity && same_name name other then Some v else None
value_in net text name _ = None

-- the values of this property of the entity of this text: one at most, since keys rise
abbrev pub values_of : Rows → Name → Name → Name → List Value
values_of rows net text name = filter_map (value_in net text name) rows

-- the value of a property as JSON: a text or a number
abbrev pub value_data : Value → Data
value_data (value.Text text) = string text
value_data (value.Num n) = number (unsigned n)
value_data _ = null

-- the first of values as JSON
abbrev pub first_data : List Value → Data
first_data [] = null
first_data (v ∷ values) = value_data v

-- the meta of a property map
abbrev pub prop_meta : Name → Rows → Data
prop_meta net rows = object_of ((codes "dependent-vtags", dependent_tags rows net) ∷ [])

-- what the map shows: entities as groups, and of each its properties with their values
abbrev pub prop_face : Name → Rows → Face
prop_face net rows = record {
  meta = prop_meta net rows;
  version = dependent_tags rows net;
  groups = entities_of rows net;
  members = properties_of rows net;
  value = λ text name. first_data (values_of rows net text name);
}

-- a property map is a map of this shape
abbrev pub prop_shape : Shape
prop_shape = record { section = codes "property-map"; path = codes "dependent-vtags" ∷ [] }

-- the property map
abbrev pub property_map : Rows → Name → Data
property_map rows net = document prop_shape (prop_face net rows)

-- the place of a network's property map that a key touches: a property of an entity, and the tag of the network map
abbrev pub prop_place : Name → Key → Place
prop_place net (key.Prop of entity name) =
    if same_name net of then place.Member (entity_text net entity) name else place.Nowhere
prop_place net (key.Seq (resource.Net of)) = if same_name net of then place.Meta else place.Nowhere
prop_place net _ = place.Nowhere
