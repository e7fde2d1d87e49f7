use Rattle.std.proofs.Common.{◌≡◌, pos, int_lt, not, map, filter, take}
use Rattle.keeper_sqlite.specs.Store.{flipped}
use Rattle.keeper_sqlite.specs.Reading.{shown_in}
use Rattle.keeper_sqlite.proofs.reading.stored_in.Given as goal

-- of the rows so far, the pieces in the order of the rows, and the others
abbrev pub invariant-loop-row : goal.invariant-loop-row
invariant-loop-row l =
    (l.stored-inside.base.items ≡ map flipped (filter (λ row. int_lt row.n (pos 0))
    (map shown_in (take l.row-index l.rows))))
    × (l.stored-inside.rows.items ≡ filter (λ row. not (int_lt row.n (pos 0))) (map shown_in (take l.row-index l.rows)))
