-- The networks that rows declare, as a walk over them comes by them.
use Rattle.std.proofs.Common.{◌≡◌, refl, sym}
use Rattle.std.specs.Prelude.{false, None}
use Rattle.std.specs.List.{filter_map}
use Rattle.alto_rows.specs.declared.key.Key.{Key}
use Rattle.alto_rows.specs.declared.key.Key.TheVariants as key
use Rattle.alto_rows.specs.declared.span.Span.TheVariants as span
use Rattle.alto_rows.specs.declared.value.Value.{Value}
use Rattle.alto_rows.specs.Rows.{Rows}
use Rattle.alto_rows.specs.Span.{is_in, rows_in}
use Rattle.alto_rows.specs.Versions.{net_declared, nets_of}
use Rattle.alto_rows.proofs.WithinLemmas.{filter_map-rows_in}

-- a row outside the span of networks declares none
none_outside : (row : Key × Value) → is_in span.Nets row.0 ≡ false → net_declared row ≡ None
none_outside (key.Net net, v) out = cc
none_outside (_, v) out = refl

-- the networks are those of the rows of their span
pub nets_in_span : (rows : Rows) → filter_map net_declared (rows_in rows span.Nets) ≡ nets_of rows
nets_in_span rows = sym (filter_map-rows_in net_declared span.Nets none_outside rows)
