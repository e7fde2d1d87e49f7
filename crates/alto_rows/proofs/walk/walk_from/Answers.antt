-- The first run begins the rows from the key on.
use Rattle.alto_rows.specs.Rows.{rows_from}
use Rattle.alto_rows.proofs.RunLemmas.{rows_from_tail}
use Rattle.alto_rows.proofs.WalkLemmas.{walking_in_run, left_in_run}
use Rattle.alto_rows.proofs.walk.walk_from.Goals as goal

pub invariant_of-result : goal.invariant_of-result
invariant_of-result g c =
    let rows = g.R.RowStore.rows c.args.store.now in
    let key = c.args.key.now in
    walking_in_run rows (rows_from rows key) c.run_from.result.now c.run_from.ensures.sorted
    (rows_from_tail rows key c.run_from.ensures.sorted) c.run_from.ensures.run

pub returns : goal.returns
returns g c =
    let rows = g.R.RowStore.rows c.args.store.now in
    let key = c.args.key.now in
    left_in_run rows (rows_from rows key) c.run_from.result.now c.run_from.ensures.sorted
    (rows_from_tail rows key c.run_from.ensures.sorted) c.run_from.ensures.run
