-- The statuses of edges by the rows of the table.
use Rattle.std.proofs.Common.{◌≡◌, ℕ, ◌+◌, ◌<◌, ◌≤◌, ◌⊎◌, ◌↔◌, rules}
use Rattle.std.specs.Prelude.{Bool, true, false, not, ◌&&◌, ◌||◌, ◌==◌, nat_lt, if◌then◌else◌, IsTrue}
use Rattle.tips_graph.specs.declared.status.EdgeStatus.{EdgeStatus}
use Rattle.tips_graph.specs.declared.status.EdgeStatus.TheVariants.{Absent, Gone, Awaited, Ahead, Here}
use Rattle.tips_graph.specs.Edges.{is_shape}
use Rattle.tips_graph.specs.Table.{Says, IsPast, IsNext}

-- the status of an edge, by whether there may be one
abbrev pub status_by : Bool → ℕ → ℕ → ℕ → ℕ → EdgeStatus
status_by shape first last i j =
    if not shape then Absent
    else if nat_lt 0 i && nat_lt i first || nat_lt j first then Gone
    else if i == last && j == last + 1 then Awaited
    else if nat_lt last j then Ahead
    else Here

-- the rows of the table, by whether there may be an edge
absent_by : (shape : Bool) (first last i j : ℕ) → (status_by shape first last i j ≡ Absent) ↔ (¬ IsTrue shape)
absent_by true first last i j = search rules
absent_by false first last i j = search rules

-- where a number is discarded
gone_by : (shape : Bool) (first last i j : ℕ)
    → (status_by shape first last i j ≡ Gone) ↔ (IsTrue shape × (IsPast first i ⊎ (j < first)))
gone_by true first last i j = search rules
gone_by false first last i j = search rules

-- where the step is the next
pub awaited_by : (shape : Bool) (first last i j : ℕ) → first ≤ last → 0 < last
    → (status_by shape first last i j ≡ Awaited) ↔ (IsTrue shape × IsNext last i j)
awaited_by true first last i j order some = search rules
awaited_by false first last i j order some = search rules

-- where it leads past the last
ahead_by : (shape : Bool) (first last i j : ℕ) → first ≤ last
    → (status_by shape first last i j ≡ Ahead) ↔ (IsTrue shape × (¬ IsPast first i) × (¬ IsNext last i j) × (last < j))
ahead_by true first last i j order = search rules
ahead_by false first last i j order = search rules

-- where it can be had
pub here_by : (shape : Bool) (first last i j : ℕ)
    → (status_by shape first last i j ≡ Here) ↔ (IsTrue shape × (¬ IsPast first i) × (first ≤ j) × (j ≤ last))
here_by true first last i j = search rules
here_by false first last i j = search rules

-- each status is that of the table
pub says_by : (first last i j : ℕ) (status : EdgeStatus) → first ≤ last → 0 < last
    → (status_by (is_shape i j) first last i j ≡ status) ↔ Says first last i j status
says_by first last i j Absent order some = absent_by (is_shape i j) first last i j
says_by first last i j Gone order some = gone_by (is_shape i j) first last i j
says_by first last i j Awaited order some = awaited_by (is_shape i j) first last i j order some
says_by first last i j Ahead order some = ahead_by (is_shape i j) first last i j order
says_by first last i j Here order some = here_by (is_shape i j) first last i j
