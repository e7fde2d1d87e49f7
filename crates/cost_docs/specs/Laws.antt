-- Which places of a cost map keys touch: the statements of the laws.
use Rattle.std.specs.Prelude.{◌≡◌, List, false, map}
use Rattle.alto_rows.specs.declared.key.Key.{Key}
use Rattle.alto_rows.specs.declared.resource.Resource.TheVariants as resource
use Rattle.alto_rows.specs.Rows.{Rows}
use Rattle.alto_rows.specs.Touches.{touches}
use Rattle.alto_maps.specs.Differ.{DifferAt}
use Rattle.alto_maps.specs.Shape.{Name}
use Rattle.alto_maps.specs.declared.place.Place.TheVariants as place
use Rattle.net_docs.specs.Differ.{DifferBy}
use Rattle.cost_docs.specs.CostMap.{cost_face, cost_place, cost_shape}

-- the maps of rows that differ by keys alone differ at the places of these keys alone
abbrev pub CostMapsDifferAtPlaces : Type 0
CostMapsDifferAtPlaces = (net metric : Name) (before later : Rows) (keys : List Key)
    → DifferBy keys before later (resource.Cost net metric)
    → DifferAt cost_shape (map (cost_place net metric) keys) (cost_face net metric before) (cost_face net metric later)

-- a key that doesn't touch a cost map touches no place of it
abbrev pub OtherKeysTouchNowhere : Type 0
OtherKeysTouchNowhere = (net metric : Name) (at : Key) → touches (resource.Cost net metric) at ≡ false
    → cost_place net metric at ≡ place.Nowhere
