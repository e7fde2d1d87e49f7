use Rattle.std.proofs.Common.{◌++◌, take}
use Rattle.alto_rows.specs.Rows.{Rows}
use Rattle.cost_tables.specs.Lists.{AreNumbered}
use Rattle.cost_tables.specs.Renewed.{AreChanges, CameFrom, TellCosts, put}
use Rattle.cost_tables.proofs.table.Table.renewed.Given as goal

-- the changes so far are of the sources so far, and the lists of what there is with them are numbered
abbrev pub invariant-loop-source : goal.invariant-loop-source
invariant-loop-source g l =
    let rows = g.R.RowStore.rows l.rows in
    record {
      changes : AreChanges (take l.source-index l.sources) l.changes.items;
      told : (before : Rows) → CameFrom l.net l.metric l.self l.writes rows before
          → TellCosts rows l.net l.metric l.changes.items;
      numbered : AreNumbered l.next (l.self ++ put l.changes.items);
    }
