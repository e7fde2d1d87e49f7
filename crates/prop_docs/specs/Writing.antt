-- What a writer adds to a JSON text for the groups of a property map.
use Rattle.std.specs.Prelude.{List, map}
use Rattle.serde_json.specs.Data.{Members}
use Rattle.json_tree.specs.Document.{members_of}
use Rattle.json_tree.specs.Tree.{members_in_order}
use Rattle.alto_maps.specs.Shape.{Name, group_object}
use Rattle.alto_rows.specs.Rows.{Rows}
use Rattle.prop_docs.specs.PropertyMap.{entities_of, prop_face}
use Rattle.prop_docs.specs.Properties.{NamedValue, shown_values}

-- the groups of a property map, each with its name
abbrev pub groups_of : Rows → Name → Members
groups_of rows net = members_of (map (λ text. (text, group_object (prop_face net rows) text)) (entities_of rows net))

-- properties as the members of an object, in their order
abbrev pub props_in_order : List NamedValue → Members
props_in_order props = members_in_order (shown_values props)
