-- The cost map of a network and a metric (RFC 7285, section 11.2.3): each source with its destinations and their costs.
use Rattle.std.specs.Prelude.{ℕ, List, [], ◌∷◌, ◌&&◌, Option, Some, None, codes, if◌then◌else◌}
use Rattle.std.specs.List.{filter_map}
use Rattle.serde_json.specs.Data.{Data, null, number, string, unsigned}
use Rattle.json_tree.specs.Document.{object_of}
use Rattle.alto_rows.specs.declared.key.Key.{Key}
use Rattle.alto_rows.specs.declared.key.Key.TheVariants as key
use Rattle.alto_rows.specs.declared.resource.Resource.TheVariants as resource
use Rattle.alto_rows.specs.declared.value.Value.{Value}
use Rattle.alto_rows.specs.Costs.{cost_of}
use Rattle.alto_rows.specs.Order.{same_name}
use Rattle.alto_rows.specs.Rows.{Rows}
use Rattle.alto_maps.specs.Shape.{Name, Shape, Face, document}
use Rattle.alto_maps.specs.Places.{set_of}
use Rattle.alto_maps.specs.declared.place.Place.{Place}
use Rattle.alto_maps.specs.declared.place.Place.TheVariants as place
use Rattle.net_docs.specs.NetworkMap.{dependent_tags}

-- the source of a cost of this metric that a row gives
abbrev pub source_in : Name → Name → Key × Value → Option Name
source_in net metric (key.Cost of kind src dst, v) =
    if same_name net of && same_name metric kind then Some src else None
source_in net metric _ = None

-- the sources that have a cost of this metric, in byte order
abbrev pub sources_of : Rows → Name → Name → List Name
sources_of rows net metric = set_of (filter_map (source_in net metric) rows)

-- the destination of a cost of this metric from a source that a row gives
abbrev pub destination_in : Name → Name → Name → Key × Value → Option Name
destination_in net metric from (key.Cost of kind src dst, v) =
    if same_name net of && same_name metric kind && same_name from src then Some dst else None
destination_in net metric from _ = None

-- the destinations to which a source has a cost, in byte order
abbrev pub destinations_of : Rows → Name → Name → Name → List Name
destinations_of rows net metric src = filter_map (destination_in net metric src) rows

-- a number as JSON
abbrev pub number_data : Option ℕ → Data
number_data (Some n) = number (unsigned n)
number_data None = null

-- a cost type: a metric, and whether the numbers are costs or ranks (section 10.7.1)
abbrev pub cost_type : Name → Name → Data
cost_type metric mode = object_of ((codes "cost-metric", string metric) ∷ (codes "cost-mode", string mode) ∷ [])

-- the meta of a cost map whose numbers are of this mode
abbrev pub cost_meta : Name → Name → Name → Rows → Data
cost_meta net metric mode rows =
    object_of
    ((codes "cost-type", cost_type metric mode) ∷ (codes "dependent-vtags", dependent_tags rows net) ∷ [])

-- what the map shows: sources as groups, and of each its destinations with their costs
abbrev pub cost_face : Name → Name → Rows → Face
cost_face net metric rows = record {
  meta = cost_meta net metric (codes "numerical") rows;
  version = dependent_tags rows net;
  groups = sources_of rows net metric;
  members = destinations_of rows net metric;
  value = λ src dst. number_data (cost_of rows net metric src dst);
}

-- a cost map is a map of this shape
abbrev pub cost_shape : Shape
cost_shape = record { section = codes "cost-map"; path = codes "dependent-vtags" ∷ [] }

-- the cost map
abbrev pub cost_map : Rows → Name → Name → Data
cost_map rows net metric = document cost_shape (cost_face net metric rows)

-- the place of a cost map that a key touches: a pair's cost, and the tag of the network map
abbrev pub cost_place : Name → Name → Key → Place
cost_place net metric (key.Cost of kind src dst) =
    if same_name net of && same_name metric kind then place.Member src dst else place.Nowhere
cost_place net metric (key.Seq (resource.Net of)) = if same_name net of then place.Meta else place.Nowhere
cost_place net metric _ = place.Nowhere
