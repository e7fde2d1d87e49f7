-- Ranges of numbers with the PIDs of their rows: which PID they give a number.
use Rattle.std.specs.Prelude.{ℕ, List, [], ◌∷◌, Option, None, nat_le}
use Rattle.std.specs.List.{filter, slice_get}
use Rattle.std.specs.Option.{option_and_then, option_map}
use Rattle.pid_prefix.specs.declared.range.Range.{Range}
use Rattle.pid_prefix.specs.Longest.{Row}

-- the first of a range, and the PID that its numbers have, if any
abbrev pub PidRange : Type 0
PidRange = ℕ × Option (List ℕ)

-- the PID of the row at the place, if there is one
abbrev pub row_pid : List Row → Option ℕ → Option (List ℕ)
row_pid rows place = option_map (λ row. row.1) (option_and_then (slice_get rows) place)

-- the range with the PID of its row
abbrev pub with_pid : List Row → Range → PidRange
with_pid rows range = (range.first, row_pid rows range.row)

-- the PID of the last range, or else this one
abbrev pub last_pid : Option (List ℕ) → List PidRange → Option (List ℕ)
last_pid pid [] = pid
last_pid pid (range ∷ rest) = last_pid range.1 rest

-- the PID of the last range that begins at or before the number
unfoldable pub pid_at : List PidRange → ℕ → Option (List ℕ)
pid_at ranges number = last_pid None (filter (λ range. nat_le range.0 number) ranges)
