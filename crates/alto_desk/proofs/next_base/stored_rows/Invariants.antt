-- The rows that are there and those that are stored of the rows that are left are all.
use Rattle.std.proofs.Common.{◌≡◌, ◌++◌}
use Rattle.alto_desk.proofs.StoredRowsLemmas.{behind}
use Rattle.alto_desk.proofs.next_base.stored_rows.Given as goal

abbrev pub invariant-loop-row : goal.invariant-loop-row
invariant-loop-row g l = l.stored.items ++ behind l.row-iterator ≡ behind (g.R.RowStore.rows l.rows)
