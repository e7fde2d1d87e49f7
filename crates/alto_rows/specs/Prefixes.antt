-- The prefixes of a network and the PIDs that they belong to.
use Rattle.std.specs.Prelude.{ℕ, List, Option, Some, None}
use Rattle.std.specs.List.{filter_map}
use Rattle.alto_addr.specs.declared.prefix.Prefix.{Prefix}
use Rattle.alto_rows.specs.declared.key.Key.{Key}
use Rattle.alto_rows.specs.declared.key.Key.TheVariants as key
use Rattle.alto_rows.specs.declared.span.Span.TheVariants as span
use Rattle.alto_rows.specs.declared.value.Value.{Value}
use Rattle.alto_rows.specs.Rows.{Rows}
use Rattle.alto_rows.specs.Span.{rows_in}

-- the prefix that a row gives a PID, and this PID
abbrev pub prefix_declared : Key × Value → Option (Prefix × List ℕ)
prefix_declared (key.Prefix net pid prefix, v) = Some (prefix, pid)
prefix_declared _ = None

-- the prefixes of a network with their PIDs, in the order of their keys
abbrev pub prefixes_in : Rows → List ℕ → List (Prefix × List ℕ)
prefixes_in rows net = filter_map prefix_declared (rows_in rows (span.Prefixes net))
