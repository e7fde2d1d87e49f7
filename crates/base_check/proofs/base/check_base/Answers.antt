-- The base's rows stand behind the first, and fit; the receipts and the rows decide.
use Rattle.std.proofs.Common.{length, sym, subst}
use Rattle.std.specs.Prelude.{Decides}
use Rattle.alto_rows.specs.Rows.{Rows}
use Rattle.base_check.specs.Fit.{AreFit}
use Rattle.base_check.specs.Rules.{KeepRows}
use Rattle.base_check.proofs.RowLemmas.{behind_fit, whole_is}
use Rattle.base_check.proofs.RuleLemmas.{receipts_break, rows_break}
use Rattle.base_check.proofs.base.check_base.Goals as goal

pub returns-then-not-branch-clause-err : goal.returns-then-not-branch-clause-err
returns-then-not-branch-clause-err g c = receipts_break _ c.args.receipts.now c.in_ok-keep_receipts.field-0
    c.in_ok-keep_receipts.ensures c.if-not-branch.true

pub keep_rows-requires-clause-fit : goal.keep_rows-requires-clause-fit
keep_rows-requires-clause-fit g c =
    let whole = whole_is _ c.args.rows.items _ c.in_ok-puts.puts.items _ c.requires.sorted c.in_ok-puts.ensures
    c.deref.ensures.value c.in_ok-whole.ensures in
    subst AreFit (sym whole) (behind_fit _ _ c.requires.good c.requires.sorted c.requires.stored)

pub returns-then-not-branch-2-clause-err : goal.returns-then-not-branch-2-clause-err
returns-then-not-branch-2-clause-err g c =
    let whole = whole_is _ c.args.rows.items _ c.in_ok-puts.puts.items _ c.requires.sorted c.in_ok-puts.ensures
    c.deref.ensures.value c.in_ok-whole.ensures in
    rows_break _ c.args.receipts.now c.in_ok-keep_rows.field-0
    (subst (λ (rows : Rows). Decides c.in_ok-keep_rows.field-0 (KeepRows rows (length c.args.receipts.now))) whole
    c.in_ok-keep_rows.ensures)
    c.if-not-branch-2.true

pub returns-clause-whole : goal.returns-clause-whole
returns-clause-whole g c =
    whole_is _ c.args.rows.items _ c.in_ok-puts.puts.items _ c.requires.sorted c.in_ok-puts.ensures
    c.deref.ensures.value c.in_ok-whole.ensures

pub returns-clause-ok : goal.returns-clause-ok
returns-clause-ok g c =
    let whole = whole_is _ c.args.rows.items _ c.in_ok-puts.puts.items _ c.requires.sorted c.in_ok-puts.ensures
    c.deref.ensures.value c.in_ok-whole.ensures in
    record {
      kept = c.in_ok-keep_receipts.ensures.0 c.if-not-branch.false;
      base = subst (λ (rows : Rows). KeepRows rows (length c.args.receipts.now))
          whole (c.in_ok-keep_rows.ensures.0 c.if-not-branch-2.false);
    }
