-- The property map cut to what is asked (RFC 9240, section 8.6): asked entities with their asked properties.
use Rattle.std.specs.Prelude.{◌==◌, List, [], ◌∷◌, ◌++◌, Option, Some, None, codes, if◌then◌else◌}
use Rattle.std.specs.List.{filter_map}
use Rattle.std.specs.Option.{option_map}
use Rattle.serde_json.specs.Data.{Data}
use Rattle.json_tree.specs.Document.{object_of}
use Rattle.alto_addr.specs.Bits.{width_of}
use Rattle.alto_addr.specs.declared.prefix.Prefix.{Prefix}
use Rattle.alto_rows.specs.declared.entity.Entity.{Entity}
use Rattle.alto_rows.specs.declared.entity.Entity.TheVariants as entity
use Rattle.alto_rows.specs.declared.key.Key.{Key}
use Rattle.alto_rows.specs.declared.key.Key.TheVariants as key
use Rattle.alto_rows.specs.declared.value.Value.{Value}
use Rattle.alto_rows.specs.declared.value.Value.TheVariants as value
use Rattle.alto_rows.specs.Entities.{entity_text}
use Rattle.alto_rows.specs.Order.{same_name}
use Rattle.alto_rows.specs.Prefixes.{prefixes_in}
use Rattle.alto_rows.specs.Rows.{Rows, value_of}
use Rattle.alto_maps.specs.Places.{set_of}
use Rattle.alto_maps.specs.Shape.{Name}
use Rattle.pid_prefix.specs.Longest.{longest_prefix}
use Rattle.prop_docs.specs.Ask.{PropAskData}
use Rattle.prop_docs.specs.PropertyMap.{prop_meta, prop_shape, value_data}
use Rattle.prop_filters.specs.Inherit.{inherited}

-- ---- the properties of an entity

-- the name of the property of an address that is its PID (RFC 7285, section 7.1.1)
abbrev pub pid_property : Name → Name
pid_property net = net ++ codes ".pid"

-- the PID of a block that is an address; any other block has none
abbrev pub pid_of : Rows → Name → Prefix → Option Value
pid_of rows net block =
    if block.len == width_of block.addr
    then option_map value.Text (longest_prefix (prefixes_in rows net) block.addr)
    else None

-- the value of a property of an entity: a block inherits it, a PID has its own alone
abbrev pub property_of : Rows → Name → Entity → Name → Option Value
property_of rows net (entity.Block block) name =
    if same_name name (pid_property net) then pid_of rows net block else inherited rows net block name
property_of rows net (entity.Pid pid) name = value_of rows (key.Prop net (entity.Pid pid) name)

-- ---- what is asked for

-- the entity to which a row gives a property
abbrev pub entity_given : Name → Key × Value → Option Entity
entity_given net (key.Prop of entity name, v) = if same_name net of then Some entity else None
entity_given net _ = None

-- the entities that are asked for: those of the list or, without any, each that has a property of its own
abbrev pub asked_entities : Rows → Name → List Entity → List Entity
asked_entities rows net [] = filter_map (entity_given net) rows
asked_entities rows net (entity ∷ entities) = entity ∷ entities

-- the name of the property that a row gives
abbrev pub name_given : Name → Key × Value → Option Name
name_given net (key.Prop of entity name, v) = if same_name net of then Some name else None
name_given net _ = None

-- the names that are asked for: those of the list or, without any, each that an entity has, and that of the PID
abbrev pub asked_names : Rows → Name → List Name → List Name
asked_names rows net [] = set_of (filter_map (name_given net) rows) ++ pid_property net ∷ []
asked_names rows net (name ∷ names) = name ∷ names

-- ---- what is shown of it

-- a property with its value, where the entity has it
abbrev pub member_of : Rows → Name → Entity → Name → Option (Name × Data)
member_of rows net entity name = option_map (λ v. (name, value_data v)) (property_of rows net entity name)

-- the object of members, where there are any
abbrev pub object_if_any : List (Name × Data) → Option Data
object_if_any [] = None
object_if_any (member ∷ members) = Some (object_of (member ∷ members))

-- an entity's text with the properties of these names that it has, where it has any
abbrev pub group_of : Rows → Name → List Name → Entity → Option (Name × Data)
group_of rows net names entity =
    option_map (λ group. (entity_text net entity, group)) (object_if_any (filter_map (member_of rows net entity) names))

-- the groups: one for each entity that has an asked property
abbrev pub groups_object : Rows → Name → PropAskData → Data
groups_object rows net ask =
    object_of
    (filter_map (group_of rows net (asked_names rows net ask.properties)) (asked_entities rows net ask.entities))

-- the filtered property map, under the meta of the whole one
unfoldable pub filtered_properties : Rows → Name → PropAskData → Data
filtered_properties rows net ask =
    object_of ((codes "meta", prop_meta net rows) ∷ (prop_shape.section, groups_object rows net ask) ∷ [])
