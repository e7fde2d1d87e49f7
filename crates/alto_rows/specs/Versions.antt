-- What rows tell of their epoch, their window, and the resources that they declare with their versions (RFC 9569,
-- section 3), and the tag of a version (RFC 7285, section 10.3).
use Rattle.std.specs.Prelude.{ℕ, Bool, List, [], ◌++◌, Option, Some, None, codes, decimal, map}
use Rattle.std.specs.List.{filter_map}
use Rattle.alto_rows.specs.declared.key.Key.{Key}
use Rattle.alto_rows.specs.declared.key.Key.TheVariants as key
use Rattle.alto_rows.specs.declared.resource.Resource.{Resource}
use Rattle.alto_rows.specs.declared.resource.Resource.TheVariants as resource
use Rattle.alto_rows.specs.declared.value.Value.{Value}
use Rattle.alto_rows.specs.declared.value.Value.TheVariants as value
use Rattle.alto_rows.specs.Rows.{Rows, value_of, has_row}

-- a row's number, 0 where it has none
abbrev pub number_in : Option Value → ℕ
number_in (Some (value.Num n)) = n
number_in _ = 0

-- a row's text, empty where it has none
abbrev pub text_in : Option Value → List ℕ
text_in (Some (value.Text text)) = text
text_in _ = []

-- the epoch of the rows
abbrev pub epoch_of : Rows → List ℕ
epoch_of rows = text_in (value_of rows key.Epoch)

-- how many versions of a resource are kept
abbrev pub window_of : Rows → ℕ
window_of rows = number_in (value_of rows key.Window)

-- the version that a resource has reached, 0 before its first
abbrev pub version_of : Rows → Resource → ℕ
version_of rows of = number_in (value_of rows (key.Seq of))

-- the key whose row declares a resource: that of its network, or of a cost map's metric
abbrev pub declaring_key : Resource → Key
declaring_key (resource.Net net) = key.Net net
declaring_key (resource.Cost net metric) = key.Metric net metric
declaring_key (resource.Prop net) = key.Net net

-- a resource is declared
abbrev pub is_declared : Rows → Resource → Bool
is_declared rows of = has_row rows (declaring_key of)

-- the network that a row declares
abbrev pub net_declared : Key × Value → Option (List ℕ)
net_declared (key.Net net, v) = Some net
net_declared _ = None

-- the cost map that a row declares
abbrev pub cost_declared : Key × Value → Option Resource
cost_declared (key.Metric net metric, v) = Some (resource.Cost net metric)
cost_declared _ = None

-- the declared networks, in the order of their names
abbrev pub nets_of : Rows → List (List ℕ)
nets_of rows = filter_map net_declared rows

-- the declared resources, in their order
abbrev pub resources_of : Rows → List Resource
resources_of rows =
    map resource.Net (nets_of rows) ++ (filter_map cost_declared rows ++ map resource.Prop (nets_of rows))

-- the tag of a resource's version: the epoch, a hyphen and the number
abbrev pub tag_of : Rows → Resource → List ℕ
tag_of rows of = epoch_of rows ++ codes "-" ++ decimal (version_of rows of)
