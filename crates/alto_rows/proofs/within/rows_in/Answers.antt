-- The rows that aren't before the span begin with those of the span, and have them all.
use Rattle.alto_rows.specs.Span.{rows_from_span}
use Rattle.alto_rows.proofs.AheadLemmas.{in_none}
use Rattle.alto_rows.proofs.WithinLemmas.{come_first_from_span, rows_in-rows_from_span}
use Rattle.alto_rows.proofs.within.rows_in.Goals as goal

pub invariant_of-result : goal.invariant_of-result
invariant_of-result g c =
    let rows = g.R.RowStore.rows c.args.store.now in
    rw c.walk_from_span-walk.ensures.rows
    (record {
      first = come_first_from_span rows c.args.span c.walk_from_span-walk.ensures.sorted;
      inside = in_none c.args.span (rows_from_span rows c.args.span);
    })

pub returns : goal.returns
returns g c = rw c.walk_from_span-walk.ensures.rows
    (rows_in-rows_from_span (g.R.RowStore.rows c.args.store.now) c.args.span)
