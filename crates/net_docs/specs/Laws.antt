-- What a network map is read from, and which of its places keys touch: the statements of the laws.
use Rattle.std.specs.Prelude.{◌≡◌, List, true, false, map}
use Rattle.alto_rows.specs.declared.key.Key.{Key}
use Rattle.alto_rows.specs.declared.key.Key.TheVariants as key
use Rattle.alto_rows.specs.declared.resource.Resource.TheVariants as resource
use Rattle.alto_rows.specs.Rows.{Rows, AreSorted, value_of}
use Rattle.alto_rows.specs.Touches.{touches}
use Rattle.alto_maps.specs.Differ.{DifferAt}
use Rattle.alto_maps.specs.Shape.{Name}
use Rattle.alto_maps.specs.declared.place.Place.TheVariants as place
use Rattle.net_docs.specs.Differ.{DifferBy}
use Rattle.net_docs.specs.NetworkMap.{network_map, net_face, net_place, net_shape}

-- rows with one epoch that have the same value at each key that touches a network map have the same map
abbrev pub MapIsOfItsKeys : Type 0
MapIsOfItsKeys = (rows others : Rows) (net : Name) → AreSorted rows → AreSorted others
    → value_of rows key.Epoch ≡ value_of others key.Epoch
    → ((at : Key) → touches (resource.Net net) at ≡ true → value_of rows at ≡ value_of others at)
    → network_map rows net ≡ network_map others net

-- the maps of rows that differ by keys alone differ at the places of these keys alone
abbrev pub MapsDifferAtPlaces : Type 0
MapsDifferAtPlaces = (net : Name) (before later : Rows) (keys : List Key)
    → DifferBy keys before later (resource.Net net)
    → DifferAt net_shape (map (net_place net) keys) (net_face net before) (net_face net later)

-- a key that doesn't touch a network map touches no place of it
abbrev pub OtherKeysTouchNowhere : Type 0
OtherKeysTouchNowhere = (net : Name) (at : Key) → touches (resource.Net net) at ≡ false
    → net_place net at ≡ place.Nowhere
