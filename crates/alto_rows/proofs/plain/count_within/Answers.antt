-- The search ends where the rows of the span do.
use Rattle.std.proofs.Common.{rules}
use Rattle.std.proofs.lemmas.List.Sorted.{IsPartitionPoint-from_clause}
use Rattle.std.specs.Prelude.{not}
use Rattle.std.specs.Ordering.{is_lt}
use Rattle.alto_rows.specs.Rows.{AreSorted}
use Rattle.alto_rows.specs.Span.{rows_from_span, span_cmp}
use Rattle.alto_rows.proofs.RunLemmas.{sorted_tail_rows}
use Rattle.alto_rows.proofs.SearchLemmas.{span_reaches, count_from_span}
use Rattle.alto_rows.proofs.WithinLemmas.{rows_from_span_tail}
use Rattle.alto_rows.proofs.plain.count_within.Goals as goal

pub returns : goal.returns
returns c =
    let rows = c.args.rows.now in
    let span = c.args.span.now in
    let tail = c.tail_in.result.now in
    let sorted : AreSorted tail = rw c.tail_in.ensures (sorted_tail_rows rows (rows_from_span rows span)
    c.requires (rows_from_span_tail rows span c.requires)) in
    count_from_span rows span c.partition_point.result
    c.requires (rw (← c.tail_in.ensures) c.partition_point.ensures.bound)
    (rw (← c.tail_in.ensures)
    (IsPartitionPoint-from_clause (λ row. not (is_lt (span_cmp span row.0))) tail c.partition_point.result
    c.partition_point.ensures.partitioned (span_reaches tail span sorted) (λ a r f k. search rules)))
