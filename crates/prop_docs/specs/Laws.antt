-- Which places of a property map keys touch: the statements of the laws.
use Rattle.std.specs.Prelude.{◌≡◌, List, false, map}
use Rattle.alto_rows.specs.declared.key.Key.{Key}
use Rattle.alto_rows.specs.declared.resource.Resource.TheVariants as resource
use Rattle.alto_rows.specs.Rows.{Rows}
use Rattle.alto_rows.specs.Touches.{touches}
use Rattle.alto_maps.specs.Differ.{DifferAt}
use Rattle.alto_maps.specs.Shape.{Name}
use Rattle.alto_maps.specs.declared.place.Place.TheVariants as place
use Rattle.net_docs.specs.Differ.{DifferBy}
use Rattle.prop_docs.specs.PropertyMap.{prop_face, prop_place, prop_shape}

-- the maps of rows that differ by keys alone differ at the places of these keys alone
abbrev pub PropMapsDifferAtPlaces : Type 0
PropMapsDifferAtPlaces = (net : Name) (before later : Rows) (keys : List Key)
    → DifferBy keys before later (resource.Prop net)
    → DifferAt prop_shape (map (prop_place net) keys) (prop_face net before) (prop_face net later)

-- a key that doesn't touch a property map touches no place of it
abbrev pub OtherKeysTouchNowhere : Type 0
OtherKeysTouchNowhere = (net : Name) (at : Key) → touches (resource.Prop net) at ≡ false
    → prop_place net at ≡ place.Nowhere
