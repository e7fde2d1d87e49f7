-- What holds of every updates graph, whatever was pushed: the statements of the laws. The pushes make the numbers after
-- `before`.
use Rattle.std.specs.Prelude.{◌≡◌, ℕ, ◌+◌, ◌-◌, ◌≤◌, ◌<◌, ◌↔◌, ◌⊎◌, List, [], ◌∷◌, ◌++◌, length, take, drop, IsTrue}
use Rattle.std.specs.Prelude.{Option, Some, option_map}
use Rattle.std.specs.List.{flat_map, slice_get}
use Rattle.tips_graph.specs.declared.status.EdgeStatus.{EdgeStatus}
use Rattle.tips_graph.specs.declared.status.EdgeStatus.TheVariants.{Awaited, Here}
use Rattle.tips_graph.specs.Edges.{is_shape, recommended_edge}
use Rattle.tips_graph.specs.Graph.{Push, graph_from, with_push, first_of, last_of, keeps, rows_at, status_of}
use Rattle.tips_graph.specs.Graph.{is_step_here, span_of}
use Rattle.tips_graph.specs.Keys.{key_set}
use Rattle.tips_graph.specs.Table.{Says}

-- one push more on the graph of pushes is the graph of one push more
abbrev pub OnePushMore : Type 0
OnePushMore = (window before : ℕ) (pushes : List Push) (push : Push)
    → with_push (graph_from window before pushes) push ≡ graph_from window before (pushes ++ push ∷ [])

-- the rows at a kept number are those of its push
abbrev pub RowsAreThoseOfThePush : Type 0
RowsAreThoseOfThePush = (window before : ℕ) (pushes : List Push) (s : ℕ)
    → IsTrue (keeps (graph_from window before pushes) s)
    → rows_at (graph_from window before pushes) s ≡ option_map (λ push. push.rows) (slice_get pushes (s - before - 1))

-- the keys of an edge that can be had are those of the pushes between, of all that there were
abbrev pub SpanIsOfThePushes : Type 0
SpanIsOfThePushes = (window before : ℕ) (pushes : List Push) (i j : ℕ)
    → IsTrue (is_step_here (status_of (graph_from window before pushes) i j) i)
    → span_of (graph_from window before pushes) i j
    ≡ Some (key_set (flat_map (λ push. push.keys) (take (j - i) (drop (i - before) pushes))))

-- each edge of a graph that keeps a number has exactly one status, that of the table
abbrev pub EachEdgeHasOneStatus : Type 0
EachEdgeHasOneStatus = (window before : ℕ) (pushes : List Push) (i j : ℕ) (status : EdgeStatus)
    → 1 ≤ window → 0 < length pushes
    → let graph = graph_from window before pushes in
    (status_of graph i j ≡ status) ↔ Says (first_of graph) (before + length pushes) i j status

-- the step from each kept number below the last can be had
abbrev pub KeptStepsAreHere : Type 0
KeptStepsAreHere = (window before : ℕ) (pushes : List Push) (s : ℕ)
    → IsTrue (keeps (graph_from window before pushes) s) → s < before + length pushes
    → status_of (graph_from window before pushes) s (s + 1) ≡ Here

-- each edge between kept numbers that a graph may have can be had
abbrev pub KeptShapesAreHere : Type 0
KeptShapesAreHere = (window before : ℕ) (pushes : List Push) (i j : ℕ)
    → let graph = graph_from window before pushes in
    IsTrue (keeps graph i) → IsTrue (keeps graph j) → IsTrue (is_shape i j) → status_of graph i j ≡ Here

-- a recommended edge can be had, or is the step after the last number
abbrev pub RecommendedIsHereOrAwaited : Type 0
RecommendedIsHereOrAwaited = (window before : ℕ) (pushes : List Push) (held : Option ℕ) → 1 ≤ window → 0 < length pushes
    → let graph = graph_from window before pushes in
    let edge = recommended_edge (first_of graph) (last_of graph) held in
    (status_of graph edge.0 edge.1 ≡ Here) ⊎ (status_of graph edge.0 edge.1 ≡ Awaited)

-- from a kept number below the last the recommended edge can be had, and none that can be had leads further
abbrev pub RecommendedIsLongest : Type 0
RecommendedIsLongest = (window before : ℕ) (pushes : List Push) (held : ℕ)
    → let graph = graph_from window before pushes in
    let edge = recommended_edge (first_of graph) (last_of graph) (Some held) in
    IsTrue (keeps graph held) → held < before + length pushes
    → (edge.0 ≡ held) × (status_of graph held edge.1 ≡ Here) × ((j : ℕ) → status_of graph held j ≡ Here → j ≤ edge.1)
