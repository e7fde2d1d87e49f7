-- Ranges of numbers, each from its first on up to the next one's first: which row they give a number.
use Rattle.std.specs.Prelude.{◌≤◌, ℕ, List, [], ◌∷◌, Option, None, nat_le, nat_lt}
use Rattle.std.specs.List.{All, filter}
use Rattle.pid_prefix.specs.declared.range.Range.{Range}

-- each range begins at or before those behind it
abbrev pub AreRising : List Range → Type 0
AreRising [] = Unit {0}
AreRising (range ∷ rest) = All (λ later. range.first ≤ later.first) rest × AreRising rest

-- the row of the last range, or else this one
abbrev pub last_row : Option ℕ → List Range → Option ℕ
last_row row [] = row
last_row row (range ∷ rest) = last_row range.row rest

-- the row of the last range that begins at or before the number
unfoldable pub row_at : List Range → ℕ → Option ℕ
row_at ranges number = last_row None (filter (λ range. nat_le range.first number) ranges)

-- those that begin below a number
abbrev pub below : ℕ → List Range → List Range
below limit ranges = filter (λ range. nat_lt range.first limit) ranges
