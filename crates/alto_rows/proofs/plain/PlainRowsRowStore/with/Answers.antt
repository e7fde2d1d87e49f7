-- Rows stay sorted under changes.
use Rattle.alto_rows.proofs.ChangeLemmas.{sorted_changed}
use Rattle.alto_rows.proofs.plain.PlainRowsRowStore.with.Goals as goal

pub invariant_of-result : goal.invariant_of-result
invariant_of-result c =
    rw (c.in_ok-merged.ensures, c.deref.ensures.value)
    (sorted_changed c.self.inside.rows.items c.in_ok-changes.changes.entries c.self.invariant)
