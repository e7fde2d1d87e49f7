-- The table that is renewed has no sources, so it tells what the rows do.
use Rattle.std.proofs.Common.{ap, subst}
use Rattle.std.proofs.lemmas.Result.{IfOk-weaker}
use Rattle.std.specs.Map.{keys_of}
use Rattle.cost_tables.specs.Lists.{table_of}
use Rattle.cost_tables.specs.Renewed.{IsRenewed}
use Rattle.cost_tables.specs.Tables.{IsSetOf, Table, sources_of}
use Rattle.cost_tables.proofs.ListLemmas.{none_numbered}
use Rattle.cost_tables.proofs.RenewedLemmas.{from_none}
use Rattle.cost_tables.proofs.TableLemmas.{table_of_rows}
use Rattle.cost_tables.proofs.table.Table.of.Goals as goal

pub invariant_of-none : goal.invariant_of-none
invariant_of-none g c = rw c.new.ensures (none_numbered 0)

pub returns : goal.returns
returns g c =
    let rows = g.R.RowStore.rows c.args.rows.now in
    let net = c.args.net.now in
    let metric = c.args.metric.now in
    let sources = c.deref.result.now in
    let set : IsSetOf sources (sources_of net metric (keys_of rows)) =
    rw c.deref.ensures.value c.in_ok-sources.ensures in
    IfOk-weaker c.renewed.result _ _
    (λ table made.
    table_of_rows rows net metric sources (table_of table) set
    (subst (λ (before : Table). IsRenewed rows net metric sources before (table_of table)) (ap table_of c.new.ensures)
    (made rows (from_none net metric _ rows c.requires c.new.ensures)))) c.renewed.ensures
