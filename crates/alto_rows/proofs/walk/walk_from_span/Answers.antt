-- The first run begins the rows that aren't before the span.
use Rattle.alto_rows.specs.Span.{rows_from_span}
use Rattle.alto_rows.proofs.WithinLemmas.{rows_from_span_tail}
use Rattle.alto_rows.proofs.WalkLemmas.{walking_in_run, left_in_run}
use Rattle.alto_rows.proofs.walk.walk_from_span.Goals as goal

pub invariant_of-result : goal.invariant_of-result
invariant_of-result g c =
    let rows = g.R.RowStore.rows c.args.store.now in
    let span = c.args.span.now in
    walking_in_run rows (rows_from_span rows span) c.run_in.result.now c.run_in.ensures.sorted
    (rows_from_span_tail rows span c.run_in.ensures.sorted) c.run_in.ensures.run

pub returns-clause-rows : goal.returns-clause-rows
returns-clause-rows g c =
    let rows = g.R.RowStore.rows c.args.store.now in
    let span = c.args.span.now in
    left_in_run rows (rows_from_span rows span) c.run_in.result.now c.run_in.ensures.sorted
    (rows_from_span_tail rows span c.run_in.ensures.sorted) c.run_in.ensures.run
