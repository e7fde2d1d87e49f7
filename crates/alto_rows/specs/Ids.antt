-- The ids by which clients name resources (RFC 7285, section 9.1.1), and the resource that a text names.
use Rattle.std.specs.Prelude.{ℕ, Bool, List, ◌++◌, Option, codes}
use Rattle.std.specs.List.{find}
use Rattle.alto_rows.specs.declared.resource.Resource.{Resource}
use Rattle.alto_rows.specs.declared.resource.Resource.TheVariants as resource
use Rattle.alto_rows.specs.Order.{same_name}
use Rattle.alto_rows.specs.Rows.{Rows}
use Rattle.alto_rows.specs.Versions.{resources_of}

-- the id of a resource: the network's name, and behind it the metric of a cost map, or that it is the property map
abbrev pub resource_id : Resource → List ℕ
resource_id (resource.Net net) = net
resource_id (resource.Cost net metric) = net ++ (codes ":cost:" ++ metric)
resource_id (resource.Prop net) = net ++ codes ":prop"

-- a text is the id of a resource
abbrev pub is_id_of : List ℕ → Resource → Bool
is_id_of text of = same_name (resource_id of) text

-- the declared resource whose id a text is
abbrev pub resource_named : Rows → List ℕ → Option Resource
resource_named rows text = find (λ of. is_id_of text of) (resources_of rows)
