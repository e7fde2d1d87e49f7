-- Endpoints in the byte order of their texts, and what is found between them.
use Rattle.std.specs.Prelude.{◌≡◌, List, [], ◌∷◌, Bool, Some, map, option_map}
use Rattle.std.specs.List.{AllByRecursion, cons_option}
use Rattle.serde_json.specs.Data.{Data}
use Rattle.alto_addr.specs.declared.addr.Addr.{Addr}
use Rattle.alto_rows.specs.Entities.{WritesTypedAddr}
use Rattle.alto_maps.specs.Places.{set_of}
use Rattle.alto_maps.specs.Shape.{Name}
use Rattle.pid_prefix.specs.Longest.{Row, longest_prefix}
use Rattle.cost_filters.specs.Between.{Found}
use Rattle.cost_filters.specs.Text.{found_object}
use Rattle.endpoint_costs.specs.declared.endpoint.Endpoint.{Endpoint}

-- an endpoint's text writes an address in its PID
abbrev pub IsWritten : List Row → Endpoint → Type 0
IsWritten prefixes end =
    (addr : Addr) × WritesTypedAddr end.text addr × (longest_prefix prefixes addr ≡ Some end.pid)

-- the texts of endpoints
abbrev pub texts : List Endpoint → List Name
texts ends = map (λ (end : Endpoint). end.text) ends

-- their PIDs
abbrev pub pids : List Endpoint → List Name
pids ends = map (λ (end : Endpoint). end.pid) ends

-- endpoints in the byte order of their texts, each text once, and each in its PID if all that there were are
pub record AreOrdered (ends ordered : List Endpoint) : Type 0 where
  pub set : texts ordered ≡ set_of (texts ends)
  pub written : (prefixes : List Row) → AllByRecursion (IsWritten prefixes) ends
      → AllByRecursion (IsWritten prefixes) ordered

-- the sources that have a pair with one of the destinations, each with the object of its pairs
abbrev pub groups_at : Bool → List Name → List Endpoint → List Found → List (Name × Data)
groups_at multi dsts (src ∷ srcs) (pairs ∷ found) =
    cons_option (option_map (λ group. (src.text, group)) (found_object multi dsts pairs))
    (groups_at multi dsts srcs found)
groups_at multi dsts _ _ = []
