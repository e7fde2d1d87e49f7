-- Where no source was written the table stays; else the costs from those that were are made anew.
use Rattle.std.proofs.Common.{◌≡◌, sym, ◌∙◌, arith, [], vec_len, eqb-true, IfOk, Result, Ok, Err, map}
use Rattle.std.proofs.lemmas.List.{nil_from_length}
use Rattle.std.specs.Arc.{arc_value}
use Rattle.std.specs.declared.sync.Arc.{Arc}
use Rattle.alto_rows.specs.Rows.{AreSorted, Rows, after}
use Rattle.cost_tables.specs.Lists.{Sources, table_of}
use Rattle.cost_tables.specs.Renewed.{IsRenewed}
use Rattle.cost_tables.specs.Tables.{IsSetOf, TellsCosts, sources_of}
use Rattle.cost_tables.proofs.RenewedLemmas.{from_told}
use Rattle.cost_tables.proofs.TableLemmas.{table_after_writes, table_unwritten}
use Rattle.cost_tables.proofs.table.Table.after.Goals as goal

-- what holds of a table holds of its clone
if_shared : {E Z : Type 0} (P : Sources → Type 0) (table : Sources) → P table → (r : Result (Arc Sources Z) E)
    → IfOk r (λ after. arc_value after ≡ table) → IfOk r (λ after. P (arc_value after))
if_shared P table holds (Ok after) is = rw is holds
if_shared P table holds (Err e) is = tt

pub returns-then-is_empty : goal.returns-then-is_empty
returns-then-is_empty g c =
    let rows = g.R.RowStore.rows c.args.rows.now in
    let sources = c.in_ok-sources.sources in
    let no_len : vec_len sources ≡ 0 = eqb-true (vec_len sources) 0 (sym c.is_empty.ensures ∙ c.if-is_empty.true) in
    let none : sources.items ≡ [] = nil_from_length sources.items (omega arith) in
    let net = c.args.net.now in
    let metric = c.args.metric.now in
    let table = arc_value c.args.table.now in
    if_shared (λ after_it. (before : Rows) → AreSorted before → rows ≡ after before c.args.writes.now
    → TellsCosts before net metric (table_of table) → TellsCosts rows net metric (table_of after_it)) table
    (λ before sorted is told. table_unwritten rows before c.args.writes.now net metric sources.items (table_of table)
    c.in_ok-sources.ensures none sorted is told) c.try_clone.result c.try_clone.ensures

pub returns : goal.returns
returns g c before sorted is told =
    let rows = g.R.RowStore.rows c.args.rows.now in
    let net = c.args.net.now in
    let metric = c.args.metric.now in
    let sources = c.deref-2.result.now in
    let table = arc_value c.args.table.now in
    let set : IsSetOf sources (sources_of net metric (map (λ write. write.key) c.args.writes.now)) =
    rw c.deref-2.ensures.value c.in_ok-sources.ensures in
    let later = arc_value c.in_ok-new.field-0 in
    let made : IsRenewed rows net metric sources (table_of table) (table_of later) =
    rw (c.in_ok-new.ensures.ok, ← c.deref.ensures)
    (c.in_ok-renewed.ensures before
    (from_told net metric _ c.args.writes.now rows before sorted is (rw c.deref.ensures told))) in
    table_after_writes rows before c.args.writes.now net metric sources (table_of table)
    (table_of later) set made sorted is told
