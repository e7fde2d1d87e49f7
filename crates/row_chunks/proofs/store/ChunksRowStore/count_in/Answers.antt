-- The rows that aren't before the span are those of it and those behind it.
use Rattle.std.proofs.Common.{◌≡◌, ◌+◌, length, filter, arith}
use Rattle.std.specs.Ordering.{is_lt}
use Rattle.alto_rows.specs.Span.{count_in, rows_from_span, span_cmp}
use Rattle.row_chunks.proofs.ReadLemmas.{span_counts}
use Rattle.row_chunks.proofs.store.ChunksRowStore.count_in.Goals as goal

pub overflow_sub-result : goal.overflow_sub-result
overflow_sub-result c =
    let rows = c.self.inside.volumes in
    let span = c.args.span.now in
    let from : c.count_behind-from.result ≡ length (rows_from_span rows span) = c.count_behind-from.ensures in
    let past : c.count_behind-past.result ≡ length (filter (λ row. is_lt (span_cmp span row.0)) rows) =
    c.count_behind-past.ensures in
    let sum : length (rows_from_span rows span)
    ≡ count_in rows span + length (filter (λ row. is_lt (span_cmp span row.0)) rows) = span_counts span rows in
    omega arith

pub returns-clause-count : goal.returns-clause-count
returns-clause-count c =
    let rows = c.self.inside.volumes in
    let span = c.args.span.now in
    let from : c.count_behind-from.result ≡ length (rows_from_span rows span) = c.count_behind-from.ensures in
    let past : c.count_behind-past.result ≡ length (filter (λ row. is_lt (span_cmp span row.0)) rows) =
    c.count_behind-past.ensures in
    let sum : length (rows_from_span rows span)
    ≡ count_in rows span + length (filter (λ row. is_lt (span_cmp span row.0)) rows) = span_counts span rows in
    rw (← c.self.view_is) (omega arith)
