-- The properties of one entity, as its rows have them.
use Rattle.std.specs.Prelude.{Bool, false, ◌&&◌, List, Option, Some, None, map, if◌then◌else◌}
use Rattle.std.specs.List.{filter_map}
use Rattle.serde_json.specs.Data.{Data}
use Rattle.json_tree.specs.Document.{object_of}
use Rattle.alto_rows.specs.declared.entity.Entity.{Entity}
use Rattle.alto_rows.specs.declared.key.Key.{Key}
use Rattle.alto_rows.specs.declared.key.Key.TheVariants as key
use Rattle.alto_rows.specs.declared.span.Span.TheVariants as span
use Rattle.alto_rows.specs.declared.value.Value.{Value}
use Rattle.alto_rows.specs.Order.{same_name}
use Rattle.alto_rows.specs.Rows.{Rows}
use Rattle.alto_rows.specs.Span.{rows_in, same_entity}
use Rattle.alto_maps.specs.Shape.{Name}
use Rattle.prop_docs.specs.PropertyMap.{is_text_of, value_data}

-- a property: its name and its value
abbrev pub NamedValue : Type 0
NamedValue = Name × Value

-- the property that a row gives
abbrev pub prop_in : Key × Value → Option NamedValue
prop_in (key.Prop of entity name, v) = Some (name, v)
prop_in _ = None

-- the properties of an entity, in the order of their names
abbrev pub props_of : Rows → Name → Entity → List NamedValue
props_of rows net entity = filter_map prop_in (rows_in rows (span.PropsOf net entity))

-- the property that a row gives the entity of this text
abbrev pub prop_shown : Name → Name → Key × Value → Option NamedValue
prop_shown net text (key.Prop of entity name, v) =
    if same_name net of && is_text_of net text entity then Some (name, v) else None
prop_shown net text _ = None

-- the properties of the entity of this text
abbrev pub props_shown : Rows → Name → Name → List NamedValue
props_shown rows net text = filter_map (prop_shown net text) rows

-- the names of properties
abbrev pub names_of : List NamedValue → List Name
names_of props = map (λ prop. prop.0) props

-- properties with their values as JSON
abbrev pub shown_values : List NamedValue → List (Name × Data)
shown_values props = map (λ prop. (prop.0, value_data prop.1)) props

-- the object of these properties
abbrev pub props_object : List NamedValue → Data
props_object props = object_of (shown_values props)

-- an entity that was found is this one
abbrev pub is_found : Option Entity → Entity → Bool
is_found None entity = false
is_found (Some one) entity = same_entity one entity

-- this entity, if the text is what is written of it
abbrev pub if_text_of : Name → Name → Entity → Option Entity
if_text_of net text entity = if is_text_of net text entity then Some entity else None
