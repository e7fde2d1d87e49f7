-- No rows are sorted.
use Rattle.std.specs.List.Sorted.{IsStrictlySortedBy}
use Rattle.row_chunks.proofs.store.ChunksRowStore.empty.Goals as goal

pub invariant_of-result : goal.invariant_of-result
unfolding IsStrictlySortedBy
invariant_of-result c = rw c.empty.ensures tt
