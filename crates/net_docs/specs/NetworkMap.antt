-- The network map of a network (RFC 7285, section 11.2.1.6): each PID with its prefixes by family.
use Rattle.std.specs.Prelude.{List, [], ◌∷◌, Bool, true, false, ◌&&◌, Option, Some, None, filter, not, codes}
use Rattle.std.specs.Prelude.{if◌then◌else◌}
use Rattle.std.specs.List.{filter_map}
use Rattle.serde_json.specs.Data.{Data, string}
use Rattle.json_tree.specs.Document.{array_of, object_of}
use Rattle.alto_addr.specs.declared.addr.Addr.{Addr}
use Rattle.alto_addr.specs.declared.addr.Addr.TheVariants as addr
use Rattle.alto_addr.specs.Text.{prefix_text}
use Rattle.alto_rows.specs.declared.key.Key.{Key}
use Rattle.alto_rows.specs.declared.key.Key.TheVariants as key
use Rattle.alto_rows.specs.declared.resource.Resource.TheVariants as resource
use Rattle.alto_rows.specs.declared.value.Value.{Value}
use Rattle.alto_rows.specs.Order.{same_name}
use Rattle.alto_rows.specs.Rows.{Rows}
use Rattle.alto_rows.specs.Versions.{tag_of}
use Rattle.alto_maps.specs.Shape.{Name, Shape, Face, document}
use Rattle.alto_maps.specs.declared.place.Place.{Place}
use Rattle.alto_maps.specs.declared.place.Place.TheVariants as place

-- the PID of a network that a row declares
abbrev pub pid_declared : Name → Key × Value → Option Name
pid_declared net (key.Pid of pid, v) = if same_name net of then Some pid else None
pid_declared net _ = None

-- the PIDs of a network, in the order of their names
abbrev pub pids_of : Rows → Name → List Name
pids_of rows net = filter_map (pid_declared net) rows

-- the name of an address's family (RFC 7285, section 10.4.2)
abbrev pub family : Addr → Name
family (addr.V4 number) = codes "ipv4"
family (addr.V6 number) = codes "ipv6"

-- the text of the prefix of this family that a row gives this PID
abbrev pub prefix_listed : Name → Name → Name → Key × Value → Option Data
prefix_listed net pid kind (key.Prefix of owner prefix, v) =
    if same_name net of && same_name pid owner && same_name kind (family prefix.addr)
    then Some (string (prefix_text prefix.addr prefix.len)) else None
prefix_listed net pid kind _ = None

-- the prefixes of this family that a PID has, by address and length
abbrev pub prefixes_of : Rows → Name → Name → Name → List Data
prefixes_of rows net pid kind = filter_map (prefix_listed net pid kind) rows

-- no prefix is listed
abbrev pub is_empty : List Data → Bool
is_empty [] = true
is_empty (text ∷ texts) = false

-- the families
abbrev pub families : List Name
families = codes "ipv4" ∷ codes "ipv6" ∷ []

-- the version tag of a network's map: its resource id, which is the network's name, and the tag of its version (section
-- 10.3)
abbrev pub version_tag : Rows → Name → Data
version_tag rows net =
    object_of ((codes "resource-id", string net) ∷ (codes "tag", string (tag_of rows (resource.Net net))) ∷ [])

-- the version tags that a map tells which depends on a network's map (section 11.2.3.6): that map's alone
abbrev pub dependent_tags : Rows → Name → Data
dependent_tags rows net = array_of (version_tag rows net ∷ [])

-- what the map shows: PIDs as groups, and of each the families that it has prefixes of
abbrev pub net_face : Name → Rows → Face
net_face net rows = record {
  meta = object_of ((codes "vtag", version_tag rows net) ∷ []);
  version = string (tag_of rows (resource.Net net));
  groups = pids_of rows net;
  members = λ pid. filter (λ kind. not (is_empty (prefixes_of rows net pid kind))) families;
  value = λ pid kind. array_of (prefixes_of rows net pid kind);
}

-- a network map is a map of this shape
abbrev pub net_shape : Shape
net_shape = record { section = codes "network-map"; path = codes "vtag" ∷ codes "tag" ∷ [] }

-- the network map
abbrev pub network_map : Rows → Name → Data
network_map rows net = document net_shape (net_face net rows)

-- the place of a network's map that a key touches: a PID's group, the prefixes of a family in it, and the tag
abbrev pub net_place : Name → Key → Place
net_place net (key.Pid of pid) = if same_name net of then place.Group pid else place.Nowhere
net_place net (key.Prefix of pid prefix) =
    if same_name net of then place.Member pid (family prefix.addr) else place.Nowhere
net_place net (key.Seq (resource.Net of)) = if same_name net of then place.Meta else place.Nowhere
net_place net _ = place.Nowhere
