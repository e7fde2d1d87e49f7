-- The costs between addresses (RFC 7285, section 11.5.1.6; RFC 8189, section 4.2.3): an address stands for its PID.
use Rattle.std.specs.Prelude.{List, [], ◌∷◌, Option, Some, None, option_map, codes}
use Rattle.std.specs.List.{filter_map}
use Rattle.serde_json.specs.Data.{Data}
use Rattle.json_tree.specs.Document.{object_of}
use Rattle.alto_addr.specs.declared.addr.Addr.{Addr}
use Rattle.alto_rows.specs.Entities.{typed_addr_text}
use Rattle.alto_rows.specs.Prefixes.{prefixes_in}
use Rattle.alto_rows.specs.Rows.{Rows}
use Rattle.alto_maps.specs.Shape.{Name}
use Rattle.net_docs.specs.declared.ask.Pick.TheVariants as pick
use Rattle.pid_prefix.specs.Longest.{Row, longest_prefix}
use Rattle.cost_filters.specs.Ask.{CostAskData}
use Rattle.cost_filters.specs.Columns.{object_if_any, pair_value}
use Rattle.cost_filters.specs.Filter.{types_data, types_name}
use Rattle.endpoint_costs.specs.declared.endpoint.Endpoint.{Endpoint}
use Rattle.endpoint_costs.specs.Ask.{EndAskData}

-- the addresses at one end: those that are given, else the client's own, if it is known
abbrev pub addrs_at : Option (List Addr) → Option Addr → List Addr
addrs_at (Some addrs) peer = addrs
addrs_at None (Some addr) = addr ∷ []
addrs_at None None = []

-- an address in a PID: its text, and this PID
abbrev pub endpoint_of : List Row → Addr → Option Endpoint
endpoint_of prefixes addr =
    option_map (λ pid. record { text = typed_addr_text addr; pid = pid }) (longest_prefix prefixes addr)

-- those of addresses that are in a PID
abbrev pub endpoints_of : List Row → List Addr → List Endpoint
endpoints_of prefixes addrs = filter_map (endpoint_of prefixes) addrs

-- the same cost types and constraints, asked of all PIDs
abbrev pub pid_ask : EndAskData → CostAskData
pid_ask ask = record {
  multi = ask.multi;
  types = ask.types;
  tested = ask.tested;
  alternatives = ask.alternatives;
  srcs = pick.All;
  dsts = pick.All;
}

-- a destination with its value, where its PID makes a pair with the source's
abbrev pub pair_of : Rows → Name → EndAskData → Endpoint → Endpoint → Option (Name × Data)
pair_of rows net ask src dst =
    option_map (λ value. (dst.text, value)) (pair_value rows net (pid_ask ask) src.pid dst.pid)

-- a source with the object of its pairs, where it has any
abbrev pub group_of : Rows → Name → EndAskData → List Endpoint → Endpoint → Option (Name × Data)
group_of rows net ask dsts src =
    option_map (λ group. (src.text, group)) (object_if_any (filter_map (pair_of rows net ask src) dsts))

-- each source that has a pair, with its pairs
abbrev pub pairs_object : Rows → Name → EndAskData → List Endpoint → List Endpoint → Data
pairs_object rows net ask srcs dsts = object_of (filter_map (group_of rows net ask dsts) srcs)

-- the endpoints at one end
abbrev pub endpoints_at : Rows → Name → Option (List Addr) → Option Addr → List Endpoint
endpoints_at rows net given peer = endpoints_of (prefixes_in rows net) (addrs_at given peer)

-- the meta: the cost types
abbrev pub endpoint_meta : EndAskData → Data
endpoint_meta ask = object_of ((types_name ask.multi, types_data ask.multi ask.types) ∷ [])

-- what is answered to an ask from an address
abbrev pub endpoint_costs : Rows → Name → EndAskData → Option Addr → Data
endpoint_costs rows net ask peer =
    let srcs = endpoints_at rows net ask.srcs peer in
    let dsts = endpoints_at rows net ask.dsts peer in
    object_of
    ((codes "meta", endpoint_meta ask) ∷ (codes "endpoint-cost-map", pairs_object rows net ask srcs dsts) ∷ [])
