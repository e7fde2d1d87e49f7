-- Whether a row that is left is one tells it of all.
use Rattle.std.proofs.Common.{◌≡◌}
use Rattle.std.specs.List.{list_any}
use Rattle.base_check.specs.Numbered.{is_misnumbered}
use Rattle.base_check.proofs.numbered.some_misnumbered.Given as goal

abbrev pub invariant-loop-row : goal.invariant-loop-row
invariant-loop-row g l =
    list_any (is_misnumbered (g.R.RowStore.rows l.rows) l.number) l.row-iterator
    ≡ list_any (is_misnumbered (g.R.RowStore.rows l.rows) l.number) (g.R.RowStore.rows l.rows)
