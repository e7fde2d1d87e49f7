use Rattle.std.proofs.Common.{take}
use Rattle.alto_rows.specs.Changes.{AreOrdered}
use Rattle.alto_rows.proofs.ChangeLemmas.{HasLast}
use Rattle.alto_rows.proofs.plain.last_values.Given as goal

abbrev pub invariant-loop-write : goal.invariant-loop-write
invariant-loop-write l = record {
  has : HasLast (take l.write-index l.writes) l.last;
  ordered : AreOrdered l.last.entries;
}
