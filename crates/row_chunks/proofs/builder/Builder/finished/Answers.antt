-- No rows are sorted.
use Rattle.std.specs.List.Sorted.{IsStrictlySortedBy}
use Rattle.row_chunks.proofs.builder.Builder.finished.Goals as goal

pub with_changed-requires-clause-sorted : goal.with_changed-requires-clause-sorted
unfolding IsStrictlySortedBy
with_changed-requires-clause-sorted g c = rw c.empty.ensures tt
