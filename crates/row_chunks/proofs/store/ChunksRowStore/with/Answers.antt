-- Rows stay sorted under changes.
use Rattle.alto_rows.proofs.ChangeLemmas.{sorted_changed}
use Rattle.row_chunks.proofs.store.ChunksRowStore.with.Goals as goal

pub invariant_of-result : goal.invariant_of-result
invariant_of-result c =
    rw (c.in_ok-with_changed.ensures, c.empty.ensures, c.deref.ensures.value)
    (sorted_changed c.self.inside.volumes c.in_ok-changes.changes.items c.self.invariant)
