-- Which edges an updates graph has between numbers, and which of them can be had (RFC 9569, section 3).
use Rattle.std.specs.Prelude.{ℕ, ◌+◌, ◌-◌, ◌%◌, max, Bool, not, ◌&&◌, ◌||◌, ◌==◌, nat_lt, nat_le, List, [], ◌∷◌, filter}
use Rattle.std.specs.Prelude.{fold, Option, Some, None, if◌then◌else◌}
use Rattle.std.specs.List.{list_any}
use Rattle.tips_graph.specs.declared.status.EdgeStatus.{EdgeStatus}
use Rattle.tips_graph.specs.declared.status.EdgeStatus.TheVariants.{Absent, Gone, Awaited, Ahead, Here}

-- how far an edge between two versions may lead, rising
abbrev pub strides : List ℕ
strides = 1 ∷ 2 ∷ 4 ∷ 8 ∷ 16 ∷ []

-- an edge leads from 0, which is nothing, to a version; or by a stride from a version that the stride divides
abbrev pub is_shape : ℕ → ℕ → Bool
is_shape i j =
    if i == 0 then nat_lt 0 j else list_any (λ stride. j == i + stride && i % stride == 0) strides

-- the first number that is kept, where the last is at least 1: the window reaches back from the last
abbrev pub first_kept : ℕ → ℕ → ℕ
first_kept window last = max 1 (last + 1 - window)

-- whether an edge can be had where these are the first and the last number that are kept
abbrev pub edge_status : ℕ → ℕ → ℕ → ℕ → EdgeStatus
edge_status first last i j =
    if not (is_shape i j) then Absent
    else if nat_lt 0 i && nat_lt i first || nat_lt j first then Gone
    else if i == last && j == last + 1 then Awaited
    else if nat_lt last j then Ahead
    else Here

-- an edge leads by a stride from a version to one that isn't past the last
abbrev pub leads_within : ℕ → ℕ → ℕ → Bool
leads_within last i stride = i % stride == 0 && nat_le (i + stride) last

-- the longest stride from a version below the last
abbrev pub longest_stride : ℕ → ℕ → ℕ
longest_stride last i = fold (λ longest stride. max longest stride) 0 (filter (leads_within last i) strides)

-- the edge that is recommended to a client, by the version that it holds: from a kept one the longest edge onward, from
-- the last the next step, and else a snapshot of the last
abbrev pub recommended_edge : ℕ → ℕ → Option ℕ → ℕ × ℕ
recommended_edge first last None = (0, last)
recommended_edge first last (Some held) =
    if nat_le first held && nat_lt held last then (held, held + longest_stride last held)
    else if held == last then (held, held + 1)
    else (0, last)
