-- What a tree says: a value of JSON (RFC 8259, section 3).
use Rattle.std.specs.Prelude.{ℕ, List, [], ◌∷◌, map}
use Rattle.serde_json.specs.Data.{Data, null, boolean, number, string, array, object, unsigned, Items, Members}
use Rattle.serde_json.specs.Data.{no_members, member}
use Rattle.serde_json.specs.View.{items_of}
use Rattle.json_tree.specs.declared.tree.Tree.{Tree, fold-Tree}
use Rattle.json_tree.specs.declared.tree.Tree.TheOpen.{Tree-F}

-- the members as they stand in this list
abbrev pub members_in_order : List (List ℕ × Data) → Members
members_in_order [] = no_members
members_in_order (m ∷ ms) = member m.0 m.1 (members_in_order ms)

-- one level of a tree, each tree inside already seen as its data
abbrev pub level_data : Tree-F Data → Data
level_data Tree-F.Null = null
level_data (Tree-F.Bool b) = boolean b
level_data (Tree-F.Num n) = number (unsigned n)
level_data (Tree-F.Text name) = string name
level_data (Tree-F.Short text) = string text.bytes
level_data (Tree-F.List trees) = array (items_of trees.items)
level_data (Tree-F.Object members) = object (members_in_order members.entries)

-- the value that a tree stands for, an object's members in the order of its map
unfoldable pub data_of : Tree → Data
data_of = fold-Tree Data level_data

-- the values of a list of trees
abbrev pub items_data : List Tree → Items
items_data trees = items_of (map data_of trees)

-- the members of a list of names with trees
abbrev pub entries_data : List (List ℕ × Tree) → Members
entries_data entries = members_in_order (map (λ e. (e.0, data_of e.1)) entries)
