-- How many rows there may be.
use Rattle.std.specs.Prelude.{ℕ, ◌≤◌, length, Option, Some, None, IfSome}
use Rattle.alto_rows.specs.declared.span.Span.{Span}
use Rattle.alto_rows.specs.declared.span.Span.TheVariants as span
use Rattle.alto_rows.specs.Rows.{Rows}
use Rattle.alto_rows.specs.Span.{count_in}

-- how many rows a span may have: so many networks, PIDs, prefixes and cost metrics of a network, and costs in a metric
abbrev pub most_in : Span → Option ℕ
most_in span.Nets = Some 8
most_in (span.Pids net) = Some 1024
most_in (span.Prefixes net) = Some 16384
most_in (span.Metrics net) = Some 8
most_in (span.CostsIn net metric) = Some 262144
most_in _ = None

-- rows within every number that a rule bounds
pub record AreWithin (rows : Rows) : Type 0 where
  pub spans : (span : Span) → IfSome (most_in span) (λ most. count_in rows span ≤ most)
  pub all : length rows ≤ 400000
