-- The statuses of edges as a table, each row by itself.
use Rattle.std.specs.Prelude.{◌≡◌, ℕ, ◌+◌, ◌≤◌, ◌<◌, ◌⊎◌, IsTrue}
use Rattle.tips_graph.specs.declared.status.EdgeStatus.{EdgeStatus}
use Rattle.tips_graph.specs.declared.status.EdgeStatus.TheVariants.{Absent, Gone, Awaited, Ahead, Here}
use Rattle.tips_graph.specs.Edges.{is_shape}

-- a version that is kept no more
abbrev pub IsPast : ℕ → ℕ → Type 0
IsPast first i = (0 < i) × (i < first)

-- the step after the last number
abbrev pub IsNext : ℕ → ℕ → ℕ → Type 0
IsNext last i j = (i ≡ last) × (j ≡ last + 1)

-- what a status says of an edge, where these are the first and the last number that are kept
abbrev pub Says : ℕ → ℕ → ℕ → ℕ → EdgeStatus → Type 0
Says first last i j Absent = ¬ IsTrue (is_shape i j)
Says first last i j Gone = IsTrue (is_shape i j) × (IsPast first i ⊎ (j < first))
Says first last i j Awaited = IsTrue (is_shape i j) × IsNext last i j
Says first last i j Ahead = IsTrue (is_shape i j) × (¬ IsPast first i) × (¬ IsNext last i j) × (last < j)
Says first last i j Here = IsTrue (is_shape i j) × (¬ IsPast first i) × (first ≤ j) × (j ≤ last)
