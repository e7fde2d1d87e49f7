-- A walk over the rows of a span, which ends at the first key outside.
use Rattle.std.specs.Prelude.{◌≡◌, ℕ, true, take, take_while}
use Rattle.std.specs.List.{AllByRecursion}
use Rattle.alto_rows.specs.declared.span.Span.{Span}
use Rattle.alto_rows.specs.Rows.{Rows}
use Rattle.alto_rows.specs.Span.{is_in, rows_in}

-- the rows of a span come before any others
abbrev pub ComeFirst : Span → Rows → Type 0
ComeFirst span rows = rows_in rows span ≡ take_while (λ row. is_in span row.0) rows

-- the first rows, so many, are in a span
abbrev pub AreIn : Span → ℕ → Rows → Type 0
AreIn span count rows = AllByRecursion (λ row. is_in span row.0 ≡ true) (take count rows)

-- the rows of a span come first among those that are left, and so many of them are known
pub record IsWithin (span : Span) (rows : Rows) (known : ℕ) : Type 0 where
  pub first : ComeFirst span rows
  pub inside : AreIn span known rows
