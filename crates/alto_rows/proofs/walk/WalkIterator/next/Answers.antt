-- The row is the first that was left, and the run behind it begins the others.
use Rattle.std.proofs.Common.{rules, ◌≡◌, ◌∙◌, ◌∷◌, sym, refl}
use Rattle.alto_rows.specs.Rows.{rows_past}
use Rattle.alto_rows.specs.Walk.{rows_left}
use Rattle.alto_rows.proofs.RunLemmas.{rows_past_tail}
use Rattle.alto_rows.proofs.WalkLemmas.{walking_in_run, left_in_run}
use Rattle.alto_rows.proofs.walk.WalkIterator.next.Goals as goal

pub invariant_of-self : goal.invariant_of-self
invariant_of-self g c =
    let rows = g.R.RowStore.rows c.self.inside.store.now in
    let row = c.in_ok-row.row.now in
    walking_in_run rows (rows_past rows row.0) c.run_behind-self-inside.result.now c.self.invariant.sorted
    (rows_past_tail rows row.0 c.self.invariant.sorted) c.run_behind-self-inside.ensures

pub returns-clause-steps : goal.returns-clause-steps
returns-clause-steps g c =
    let rows = g.R.RowStore.rows c.self.inside.store.now in
    let row = c.in_ok-row.row.now in
    let run = c.run_behind-self-inside.result.now in
    let left : rows_left rows run ≡ rows_past rows row.0 =
    left_in_run rows (rows_past rows row.0) run c.self.invariant.sorted
    (rows_past_tail rows row.0 c.self.invariant.sorted) c.run_behind-self-inside.ensures in
    let first : rows_left rows c.self.inside.run.now ≡ row ∷ rows_left rows run =
    rw (c.in_ok-row.ensures.cases.0, left) refl in
    sym c.self.view_is ∙ first

pub returns-clause-goes : goal.returns-clause-goes
returns-clause-goes g c =
    let step : goal.returns-clause-steps = returns-clause-steps in
    let shorter = step g c in
    search rules
