-- Cuts of rows: the places before and behind a key or the keys of a span, and the rows behind them.
use Rattle.std.specs.Prelude.{Bool, not, filter}
use Rattle.std.specs.Ordering.{is_gt, is_lt}
use Rattle.alto_rows.specs.declared.key.Key.{Key}
use Rattle.alto_rows.specs.Order.{key_cmp}
use Rattle.alto_rows.specs.Rows.{Rows}
use Rattle.alto_rows.specs.Span.{span_cmp}
use Rattle.row_chunks.specs.declared.cut.Cut.{Cut}
use Rattle.row_chunks.specs.declared.cut.Cut.TheVariants.{Before, Behind, BeforeSpan, BehindSpan}

-- a key is behind a cut
abbrev pub keeps : Cut → Key → Bool
keeps (Before key) at = not (is_gt (key_cmp key.now at))
keeps (Behind key) at = is_lt (key_cmp key.now at)
keeps (BeforeSpan span) at = not (is_gt (span_cmp span.now at))
keeps (BehindSpan span) at = is_lt (span_cmp span.now at)

-- the rows behind a cut
abbrev pub rows_behind : Cut → Rows → Rows
rows_behind cut rows = filter (λ row. keeps cut row.0) rows
