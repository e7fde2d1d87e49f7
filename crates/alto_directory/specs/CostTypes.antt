-- The cost types of a directory and their names (RFC 7285, sections 9.2.2 and 10.7).
use Rattle.std.specs.Prelude.{List, [], ◌∷◌, ◌++◌, codes}
use Rattle.std.specs.List.{flat_map}
use Rattle.serde_json.specs.Data.{Data, string}
use Rattle.json_tree.specs.Document.{object_of}
use Rattle.alto_maps.specs.Shape.{Name}
use Rattle.alto_directory.specs.Network.{NetworkData}

-- the name of a metric's numerical costs
abbrev pub numerical_name : Name → Name
numerical_name metric = codes "num-" ++ metric

-- the name of a metric's ordinal costs
abbrev pub ordinal_name : Name → Name
ordinal_name metric = codes "ord-" ++ metric

-- the name of path vectors
abbrev pub path_vector_name : Name
path_vector_name = codes "path-vector"

-- a cost type of this metric and mode
abbrev pub cost_type : Name → Name → Data
cost_type metric mode = object_of ((codes "cost-metric", string metric) ∷ (codes "cost-mode", string mode) ∷ [])

-- the cost types of a metric by their names
abbrev pub metric_types : Name → List (Name × Data)
metric_types metric =
    (numerical_name metric, cost_type metric (codes "numerical"))
    ∷ (ordinal_name metric, cost_type metric (codes "ordinal"))
    ∷ []

-- the cost types of these metrics
abbrev pub metrics_types : List Name → List (Name × Data)
metrics_types metrics = flat_map metric_types metrics

-- the cost type of path vectors (RFC 9275, section 6.5), where there is a network
abbrev pub path_vector_types : List NetworkData → List (Name × Data)
path_vector_types [] = []
path_vector_types (net ∷ nets) = (path_vector_name, cost_type (codes "ane-path") (codes "array")) ∷ []

-- the cost types of a network's metrics
abbrev pub network_types : NetworkData → List (Name × Data)
network_types net = metrics_types net.metrics

-- the cost types of networks by their names
abbrev pub cost_types : List NetworkData → Data
cost_types nets = object_of (flat_map network_types nets ++ path_vector_types nets)
