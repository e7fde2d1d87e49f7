use Rattle.std.proofs.Common.{◌≡◌, ◌++◌}
use Rattle.alto_rows.specs.Versions.{nets_of}
use Rattle.alto_versions.specs.Graphs.{entries}
use Rattle.alto_versions.specs.Tables.{tables_after}
use Rattle.alto_versions.proofs.tables.tables_after.Given as goal

-- the tables that are there, and those of the networks that are left, are all
abbrev pub invariant-loop-net : goal.invariant-loop-net
invariant-loop-net g l =
    let rows = g.R.RowStore.rows l.rows in
    entries l.after.items ++ tables_after (entries l.tables) l.net-iterator.rest.items rows l.writes
    ≡ tables_after (entries l.tables) (nets_of rows) rows l.writes
