-- The cost maps that rows declare, by their networks.
use Rattle.std.specs.Prelude.{ℕ, List}
use Rattle.std.specs.List.{filter_map}
use Rattle.alto_rows.specs.declared.resource.Resource.{Resource}
use Rattle.alto_rows.specs.declared.span.Span.TheVariants as span
use Rattle.alto_rows.specs.Rows.{Rows}
use Rattle.alto_rows.specs.Span.{rows_in}
use Rattle.alto_rows.specs.Versions.{cost_declared}

-- the cost maps of a network
abbrev pub costs_of : Rows → List ℕ → List Resource
costs_of rows net = filter_map cost_declared (rows_in rows (span.Metrics net))
