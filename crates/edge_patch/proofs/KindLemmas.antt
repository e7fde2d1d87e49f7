-- What each kind of map brings: its maps differ at the places of the keys by which rows differ, and other keys touch no
-- place.
use Rattle.std.proofs.Common.{◌≡◌}
use Rattle.std.specs.Prelude.{false, List, map}
use Rattle.alto_rows.specs.declared.key.Key.{Key}
use Rattle.alto_rows.specs.declared.resource.Resource.{Resource}
use Rattle.alto_rows.specs.declared.resource.Resource.TheVariants as resource
use Rattle.alto_rows.specs.Rows.{Rows}
use Rattle.alto_rows.specs.Touches.{touches}
use Rattle.alto_maps.specs.Differ.{DifferAt}
use Rattle.alto_maps.specs.declared.place.Place.TheVariants as place
use Rattle.net_docs.specs.Differ.{DifferBy}
use Rattle.net_docs.proofs.PlaceLemmas as nets
use Rattle.cost_docs.proofs.PlaceLemmas as costs
use Rattle.prop_docs.proofs.PlaceLemmas as props
use Rattle.edge_patch.specs.Documents.{face_of, place_of, shape_of}

pub differ_at : (of : Resource) (before later : Rows) (keys : List Key) → DifferBy keys before later of
    → DifferAt (shape_of of) (map (place_of of) keys) (face_of of before) (face_of of later)
differ_at (resource.Net net) before later keys differ = nets.differ_at net before later keys differ
differ_at (resource.Cost net metric) before later keys differ = costs.differ_at net metric before later keys differ
differ_at (resource.Prop net) before later keys differ = props.differ_at net before later keys differ

pub nowhere : (of : Resource) (at : Key) → touches of at ≡ false → place_of of at ≡ place.Nowhere
nowhere (resource.Net net) at untouched = nets.nowhere net at untouched
nowhere (resource.Cost net metric) at untouched = costs.nowhere net metric at untouched
nowhere (resource.Prop net) at untouched = props.nowhere net at untouched
