-- The pairs of a cost map that keys name, and its version.
use Rattle.std.specs.Prelude.{List, Bool, false, ◌&&◌, Option, Some, None, if◌then◌else◌}
use Rattle.std.specs.List.{filter_map}
use Rattle.alto_rows.specs.declared.key.Key.{Key}
use Rattle.alto_rows.specs.declared.key.Key.TheVariants as key
use Rattle.alto_rows.specs.declared.resource.Resource.TheVariants as resource
use Rattle.alto_rows.specs.Order.{same_name}
use Rattle.alto_maps.specs.Shape.{Name}

-- a source and a destination
abbrev pub Pair : Type 0
Pair = Name × Name

-- the pair whose cost in a metric a key is of
abbrev pub pair_in : Name → Name → Key → Option Pair
pair_in net metric (key.Cost of kind src dst) =
    if same_name net of && same_name metric kind then Some (src, dst) else None
pair_in net metric _ = None

abbrev pub pairs_of : Name → Name → List Key → List Pair
pairs_of net metric keys = filter_map (pair_in net metric) keys

-- a key is of the version of a network's map
abbrev pub is_version_of : Name → Key → Bool
is_version_of net (key.Seq (resource.Net of)) = same_name net of
is_version_of net _ = false
