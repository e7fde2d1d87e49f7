-- Which keys a resource is made of.
use Rattle.std.specs.Prelude.{List, ℕ, Bool, false, ◌||◌, ◌&&◌, Option, Some, None}
use Rattle.alto_rows.specs.declared.key.Key.{Key}
use Rattle.alto_rows.specs.declared.key.Key.TheVariants as key
use Rattle.alto_rows.specs.declared.resource.Resource.{Resource}
use Rattle.alto_rows.specs.declared.resource.Resource.TheVariants as resource
use Rattle.alto_rows.specs.Order.{same_name, net_of}

-- two resources are one
abbrev pub same_resource : Resource → Resource → Bool
same_resource (resource.Net a) (resource.Net b) = same_name a b
same_resource (resource.Cost a m) (resource.Cost b n) = same_name a b && same_name m n
same_resource (resource.Prop a) (resource.Prop b) = same_name a b
same_resource _ _ = false

-- the resource whose document a row is part of: a network map has its network, its PIDs and their prefixes, a cost map
-- its metric and the costs in it, and a property map its properties
abbrev pub part_of : Key → Option Resource
part_of (key.Net net) = Some (resource.Net net)
part_of (key.Pid net pid) = Some (resource.Net net)
part_of (key.Prefix net pid prefix) = Some (resource.Net net)
part_of (key.Metric net metric) = Some (resource.Cost net metric)
part_of (key.Cost net metric source destination) = Some (resource.Cost net metric)
part_of (key.Prop net entity name) = Some (resource.Prop net)
part_of _ = None

-- the network whose map a row gives its version
abbrev pub versions_map : Key → Option (List ℕ)
versions_map (key.Seq (resource.Net net)) = Some net
versions_map _ = None

-- an optional resource is this one
abbrev pub is_resource : Option Resource → Resource → Bool
is_resource None of = false
is_resource (Some part) of = same_resource of part

-- an optional network is this one
abbrev pub is_net : Option (List ℕ) → List ℕ → Bool
is_net None net = false
is_net (Some of) net = same_name net of

-- a write of the key changes the resource: the row is part of its document, or is the version of the network map that
-- the document names
abbrev pub touches : Resource → Key → Bool
touches of at = is_resource (part_of at) of || is_net (versions_map at) (net_of of)
