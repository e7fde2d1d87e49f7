-- The rows that the writes so far put.
use Rattle.base_code.proofs.RowLemmas.{HasPut}
use Rattle.base_code.proofs.rows.push_puts.Given as goal

abbrev pub invariant-loop-write : goal.invariant-loop-write
invariant-loop-write l = HasPut l.initial.rows.items l.rows.items l.fn.writes.items l.write-iterator.rest.items
