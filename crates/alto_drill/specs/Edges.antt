-- The edges of a drill: all that are available of its three resources.
use Rattle.std.specs.Prelude.{ℕ, ◌+◌, Bool, true, false, List, [], ◌∷◌, filter, map, if◌then◌else◌}
use Rattle.std.specs.List.{flat_map, range_with_len}
use Rattle.alto_rows.specs.declared.resource.Resource.{Resource}
use Rattle.alto_rows.specs.declared.resource.Resource.TheVariants as resource
use Rattle.alto_rows.specs.Versions.{is_declared, version_of}
use Rattle.tips_graph.specs.declared.status.EdgeStatus.{EdgeStatus}
use Rattle.tips_graph.specs.declared.status.EdgeStatus.TheVariants.{Absent, Gone, Awaited, Ahead, Here}
use Rattle.alto_book.specs.Book.{Book, rows_of}
use Rattle.alto_book.specs.Numbers.{status_at}
use Rattle.alto_drill.specs.Imports.{net_name, metric_name}

-- an edge of this status is available
abbrev pub is_here : EdgeStatus → Bool
is_here Here = true
is_here Absent = false
is_here Gone = false
is_here Awaited = false
is_here Ahead = false

-- the available edges from a number, by their ends, where this is the last number
abbrev pub edges_from : (ℕ → ℕ → EdgeStatus) → ℕ → ℕ → List (ℕ × ℕ)
edges_from status last i = map (λ j. (i, j)) (filter (λ j. is_here (status i j)) (range_with_len 0 (last + 1)))

-- the available edges, by their beginnings and then by their ends
unfoldable pub edges_by : (ℕ → ℕ → EdgeStatus) → ℕ → List (ℕ × ℕ)
edges_by status last = flat_map (edges_from status last) (range_with_len 0 (last + 1))

-- the available edges of a resource, none where it isn't declared
abbrev pub edges_of : Book → Resource → List (ℕ × ℕ)
edges_of book of =
    if is_declared (rows_of book) of then edges_by (status_at book of) (version_of (rows_of book) of) else []

-- the resources, in this order
abbrev pub drill_resources : List Resource
drill_resources = resource.Net net_name ∷ resource.Cost net_name metric_name ∷ resource.Prop net_name ∷ []
