-- The document of a resource, which a client reads by name and an edge from 0 holds whole (RFC 9569, section 3): the
-- map of its kind.
use Rattle.serde_json.specs.Data.{Data}
use Rattle.alto_rows.specs.declared.key.Key.{Key}
use Rattle.alto_rows.specs.declared.resource.Resource.{Resource}
use Rattle.alto_rows.specs.declared.resource.Resource.TheVariants as resource
use Rattle.alto_rows.specs.Rows.{Rows}
use Rattle.alto_maps.specs.Shape as maps
use Rattle.alto_maps.specs.Shape.{Face, Shape}
use Rattle.alto_maps.specs.declared.place.Place.{Place}
use Rattle.net_docs.specs.NetworkMap.{net_face, net_place, net_shape}
use Rattle.cost_docs.specs.CostMap.{cost_face, cost_place, cost_shape}
use Rattle.prop_docs.specs.PropertyMap.{prop_face, prop_place, prop_shape}

-- the shape of a resource's map
abbrev pub shape_of : Resource → Shape
shape_of (resource.Net net) = net_shape
shape_of (resource.Cost net metric) = cost_shape
shape_of (resource.Prop net) = prop_shape

-- what its map shows
abbrev pub face_of : Resource → Rows → Face
face_of (resource.Net net) = net_face net
face_of (resource.Cost net metric) = cost_face net metric
face_of (resource.Prop net) = prop_face net

-- the place of its map that a key touches
abbrev pub place_of : Resource → Key → Place
place_of (resource.Net net) = net_place net
place_of (resource.Cost net metric) = cost_place net metric
place_of (resource.Prop net) = prop_place net

-- the document
abbrev pub document : Resource → Rows → Data
document of rows = maps.document (shape_of of) (face_of of rows)
