-- What the updates graph of a resource keeps (RFC 9569, section 3).
use Rattle.std.specs.Prelude.{ℕ, ◌+◌, ◌-◌, ◌&&◌, ◌==◌, nat_lt, nat_le, Bool, false, List, [], ◌∷◌, ◌++◌, length, take}
use Rattle.std.specs.Prelude.{drop, All, Option, Some, None, option_map, if◌then◌else◌, ◌≡◌}
use Rattle.std.specs.List.{flat_map, slice_get}
use Rattle.alto_rows.specs.declared.key.Key.{Key}
use Rattle.alto_rows.specs.Rows.{Rows}
use Rattle.tips_graph.specs.declared.status.EdgeStatus.{EdgeStatus}
use Rattle.tips_graph.specs.declared.status.EdgeStatus.TheVariants.{Absent, Gone, Awaited, Ahead, Here}
use Rattle.tips_graph.specs.Edges.{edge_status}
use Rattle.tips_graph.specs.Keys.{key_set}

-- one number of a resource: the rows at it, and the keys that were written for it
pub record Push : Type 0 where
  pub rows : Rows
  pub keys : List Key

-- a graph: how many numbers it keeps at most, the last number, and the pushes of the kept numbers
pub record GraphData : Type 0 where
  pub window : ℕ
  pub last : ℕ
  pub kept : List Push

-- the last n items of a list
abbrev pub last_items : {A : Type 0} → ℕ → List A → List A
last_items n items = drop (length items - n) items

-- the graph after these pushes, which make the numbers after this one
abbrev pub graph_from : ℕ → ℕ → List Push → GraphData
graph_from window before pushes =
    record { window = window; last = before + length pushes; kept = last_items window pushes }

-- the graph after these pushes, which make the numbers from 1 on
abbrev pub graph_of : ℕ → List Push → GraphData
graph_of window pushes = graph_from window 0 pushes

-- a graph with one push more
abbrev pub with_push : GraphData → Push → GraphData
with_push graph push =
    record { window = graph.window; last = graph.last + 1; kept = last_items graph.window (graph.kept ++ push ∷ []) }

-- the first number that a graph keeps, 0 where it keeps none
abbrev pub first_of : GraphData → ℕ
first_of graph = if length graph.kept == 0 then 0 else graph.last + 1 - length graph.kept

-- the last number that a graph keeps, 0 where it keeps none
abbrev pub last_of : GraphData → ℕ
last_of graph = if length graph.kept == 0 then 0 else graph.last

-- a graph without the numbers before one that it keeps, at which the rows are to be these
abbrev pub cut_at : GraphData → ℕ → Rows → GraphData
cut_at graph first rows = record {
  window = graph.window;
  last = graph.last;
  kept = record { rows = rows; keys = [] } ∷ drop (first + 1 - first_of graph) graph.kept;
}

-- whether the graph keeps a number
abbrev pub keeps : GraphData → ℕ → Bool
keeps graph number = nat_lt 0 number && nat_le (first_of graph) number && nat_le number (last_of graph)

-- the rows at a number, where it is kept
abbrev pub rows_at : GraphData → ℕ → Option Rows
rows_at graph number =
    if keeps graph number then option_map (λ push. push.rows) (slice_get graph.kept (number - first_of graph)) else None

-- whether an edge of the graph can be had
abbrev pub status_of : GraphData → ℕ → ℕ → EdgeStatus
status_of graph i j = edge_status (first_of graph) (last_of graph) i j

-- an edge between two versions that can be had
abbrev pub is_step_here : EdgeStatus → ℕ → Bool
is_step_here Here i = nat_lt 0 i
is_step_here Absent i = false
is_step_here Gone i = false
is_step_here Awaited i = false
is_step_here Ahead i = false

-- the pushes of the numbers after i, up to j
abbrev pub pushes_between : GraphData → ℕ → ℕ → List Push
pushes_between graph i j = take (j - i) (drop (i + 1 - first_of graph) graph.kept)

-- the distinct keys that lead from one kept number to another, in their order, where that edge can be had
abbrev pub span_of : GraphData → ℕ → ℕ → Option (List Key)
span_of graph i j =
    if is_step_here (status_of graph i j) i
    then Some (key_set (flat_map (λ push. push.keys) (pushes_between graph i j)))
    else None

-- the keys of each push are a set in order
abbrev pub AreSets : List Push → Type 0
AreSets pushes = All (λ push. key_set push.keys ≡ push.keys) pushes
