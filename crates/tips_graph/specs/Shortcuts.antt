-- The key lists that are kept for the edges of an updates graph (RFC 9569, section 3).
use Rattle.std.specs.Prelude.{◌≡◌, ℕ, ◌+◌, ◌-◌, ◌%◌, ◌≤◌, ◌<◌, ◌==◌, List, map, length, take, drop, get_or, IsTrue}
use Rattle.std.specs.Prelude.{Option, Some, if◌then◌else◌}
use Rattle.std.specs.List.{flat_map, list_any}
use Rattle.std.specs.Option.{ForSome}
use Rattle.alto_rows.specs.declared.key.Key.{Key}
use Rattle.alto_rows.specs.Rows.{Rows}
use Rattle.tips_graph.specs.Edges.{strides}
use Rattle.tips_graph.specs.Graph.{GraphData, Push}
use Rattle.tips_graph.specs.Keys.{key_set}
use Rattle.tips_graph.specs.Sound.{IsSound}

-- what is kept for a number: the rows at it, the keys of its push, and those of some longer edges that end at it
pub record StepData : Type 0 where
  pub rows : Rows
  pub keys : List Key
  pub twos : Option (List Key)
  pub fours : Option (List Key)
  pub eights : Option (List Key)
  pub sixteens : Option (List Key)

-- the push of a number
abbrev pub push_of : StepData → Push
push_of step = record { rows = step.rows; keys = step.keys }

-- the list of a stride, where one is kept
abbrev pub list_of : StepData → ℕ → Option (List Key)
list_of step stride =
    if stride == 1 then Some step.keys
    else if stride == 2 then step.twos
    else if stride == 4 then step.fours
    else if stride == 8 then step.eights
    else step.sixteens

-- a number is a stride
abbrev pub IsStride : ℕ → Type 0
IsStride stride = IsTrue (list_any (λ each. stride == each) strides)

-- a list has the keys of the edge by a stride to a number, where the pushes, which make the numbers after `before`,
-- have such an edge
abbrev pub IsListOfEdge : ℕ → List Push → ℕ → ℕ → List Key → Type 0
IsListOfEdge before pushes number stride keys = number % stride ≡ 0 → before + 1 + stride ≤ number
    → keys ≡ key_set (flat_map (λ push. push.keys) (take stride (drop (number - stride - before) pushes)))

-- so has a list that may be kept, where it is
abbrev pub IsListIfKept : ℕ → List Push → ℕ → ℕ → Option (List Key) → Type 0
IsListIfKept before pushes number stride list = ForSome list (IsListOfEdge before pushes number stride)

-- the lists that a step to a number keeps are those of the edges to it
abbrev pub HasLists : ℕ → List Push → ℕ → StepData → Type 0
HasLists before pushes number step =
    (stride : ℕ) → IsStride stride → IsListIfKept before pushes number stride (list_of step stride)

-- so are those of all steps, which make the numbers after `before`
abbrev pub HaveLists : ℕ → List StepData → Type 0
HaveLists before steps = (k : ℕ) (default : StepData) → k < length steps
    → HasLists before (map push_of steps) (before + k + 1) (get_or steps k default)

-- the number before the first that a graph keeps
abbrev pub before_kept : GraphData → ℕ
before_kept graph = graph.last - length graph.kept

-- the graph that keeps these steps
abbrev pub graph_with : ℕ → ℕ → List StepData → GraphData
graph_with window last steps = record { window = window; last = last; kept = map push_of steps }

-- a graph that stands in memory is sound, and the lists that its steps keep are those of its edges
pub record Stands (window last : ℕ) (steps : List StepData) : Type 0 where
  pub sound : IsSound (graph_with window last steps)
  pub lists : HaveLists (last - length steps) steps
