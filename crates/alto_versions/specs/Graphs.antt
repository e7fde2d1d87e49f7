-- The updates graphs of a version, and what a batch makes of them.
use Rattle.std.specs.Prelude.{◌≡◌, ⊤, ◌-◌, nat_lt, List, [], ◌∷◌, map, Option, Some, None, if◌then◌else◌}
use Rattle.std.specs.Arc.{arc_value}
use Rattle.std.specs.BTreeMap.{is_at}
use Rattle.std.specs.Ordering.{is_lt}
use Rattle.std.specs.declared.sync.Arc.{Arc}
use Rattle.alto_rows.specs.declared.key.Key.{Key}
use Rattle.alto_rows.specs.declared.resource.Resource.{Resource}
use Rattle.alto_rows.specs.declared.write.Write.{Write}
use Rattle.alto_rows.specs.Order.{resource_cmp}
use Rattle.alto_rows.specs.Rows.{Rows}
use Rattle.alto_rows.specs.Versions.{version_of, window_of}
use Rattle.alto_book.specs.Numbers.{touching}
use Rattle.tips_graph.specs.Graph.{Push, GraphData, graph_from, with_push}
use Rattle.tips_graph.specs.Keys.{key_set}

-- shared values, each under its key, as data
abbrev pub entries : {K V Z : Type 0} → List (K × Arc V Z) → List (K × V)
entries shared = map (λ entry. (entry.0, arc_value entry.1)) shared

-- what writes that led to these rows bring a resource's graph
abbrev pub push_after : Resource → Rows → List Write → Push
push_after of rows writes = record { rows = rows; keys = key_set (touching of writes) }

-- a resource's graph after writes that led to these rows: with a push more where the resource has a new version, and
-- begun with its version where it had no graph
abbrev pub graph_after : Option GraphData → Resource → Rows → List Write → GraphData
graph_after (Some graph) of rows writes =
    if nat_lt graph.last (version_of rows of) then with_push graph (push_after of rows writes) else graph
graph_after None of rows writes =
    with_push (graph_from (window_of rows) (version_of rows of - 1) []) (push_after of rows writes)

-- graphs in the order of resources, from the first that isn't of a resource before this one
abbrev pub graphs_from : List (Resource × GraphData) → Resource → List (Resource × GraphData)
graphs_from [] of = []
graphs_from (entry ∷ rest) of = if is_lt (resource_cmp entry.0 of) then graphs_from rest of else entry ∷ rest

-- the graph of a resource, where graphs begin with it
abbrev pub leading_graph : List (Resource × GraphData) → Resource → Option GraphData
leading_graph [] of = None
leading_graph (entry ∷ rest) of = if is_at (resource_cmp of) entry.0 then Some entry.1 else None

-- keys are those of the writes that touch the resources, one list for each, as far as there are some
abbrev pub AreTouching : List Write → List (List Key) → List Resource → Type 0
AreTouching writes [] resources = ⊤
AreTouching writes (keys ∷ found) [] = ⊤
AreTouching writes (keys ∷ found) (of ∷ resources) = (keys ≡ touching of writes) × AreTouching writes found resources
