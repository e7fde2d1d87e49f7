-- The rows from where those before the span end.
use Rattle.std.proofs.Common.{◌∙◌, rules}
use Rattle.std.proofs.lemmas.List.{take_rest}
use Rattle.std.proofs.lemmas.List.Sorted.{IsPartitionPoint-from_clause}
use Rattle.std.specs.Ordering.{is_gt}
use Rattle.alto_rows.specs.Span.{span_cmp}
use Rattle.alto_rows.proofs.SearchLemmas.{span_partitioned, drop_at_span}
use Rattle.alto_rows.proofs.plain.tail_in.Goals as goal

pub returns : goal.returns
returns c =
    let rows = c.args.rows.now in
    let span = c.args.span.now in
    take_rest rows c.partition_point-at.result
    ∙ drop_at_span rows span c.partition_point-at.result c.partition_point-at.ensures.bound
    (IsPartitionPoint-from_clause (λ row. is_gt (span_cmp span row.0)) rows c.partition_point-at.result
    c.partition_point-at.ensures.partitioned (span_partitioned rows span c.requires) (λ a r f k. search rules))
