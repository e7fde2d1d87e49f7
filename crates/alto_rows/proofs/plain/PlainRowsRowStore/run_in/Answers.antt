-- All the rows that aren't before the span are one run.
use Rattle.alto_rows.proofs.RunLemmas.{whole_run}
use Rattle.alto_rows.proofs.plain.PlainRowsRowStore.run_in.Goals as goal

pub returns-clause-run : goal.returns-clause-run
returns-clause-run c = whole_run _ _ (rw (← c.self.view_is, ← c.deref.ensures.value) c.tail_in.ensures)
