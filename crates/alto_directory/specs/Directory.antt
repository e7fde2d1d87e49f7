-- The information resource directory (RFC 7285, section 9.2): what the server has, and where.
use Rattle.std.specs.Prelude.{List, [], ◌∷◌, codes}
use Rattle.serde_json.specs.Data.{Data, string}
use Rattle.json_tree.specs.Document.{object_of}
use Rattle.alto_rows.specs.Rows.{Rows}
use Rattle.alto_maps.specs.Shape.{Name}
use Rattle.alto_directory.specs.CostTypes.{cost_types}
use Rattle.alto_directory.specs.Entries.{entries_of}
use Rattle.alto_directory.specs.Entry.{entries_data}
use Rattle.alto_directory.specs.Network.{NetworkData, networks_of}

-- the default network map: the first network's, where there is one
abbrev pub default_map : List NetworkData → List (Name × Data)
default_map [] = []
default_map (net ∷ nets) = (codes "default-alto-network-map", string net.name) ∷ []

-- the meta: cost types by their names, and the default network map
abbrev pub meta_data : List NetworkData → Data
meta_data nets = object_of ((codes "cost-types", cost_types nets) ∷ default_map nets)

-- the entries by their ids
abbrev pub resources : List NetworkData → Data
resources nets = entries_data (entries_of nets)

-- the directory of networks
abbrev pub directory_of : List NetworkData → Data
directory_of nets = object_of ((codes "meta", meta_data nets) ∷ (codes "resources", resources nets) ∷ [])

-- the directory
unfoldable pub directory : Rows → Data
directory rows = directory_of (networks_of rows)
