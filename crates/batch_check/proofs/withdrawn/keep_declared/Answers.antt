-- The writes tell, or the rows that name what is withdrawn.
use Rattle.std.proofs.Common.{sym, ◌∙◌}
use Rattle.std.proofs.lemmas.List.{nil_from_length}
use Rattle.batch_check.proofs.DeclaredLemmas.{declared_kept, declared_refuted, declared_told}
use Rattle.batch_check.proofs.withdrawn.keep_declared.Goals as goal

pub returns-then-branch : goal.returns-then-branch
returns-then-branch g c =
    declared_refuted (g.R.RowStore.rows c.args.next.now) c.args.writes.now c.in_ok-puts_orphan.field-0
    c.in_ok-puts_orphan.ensures c.if-branch.true

pub returns-then-is_empty : goal.returns-then-is_empty
returns-then-is_empty g c =
    declared_kept (g.R.RowStore.rows c.args.rows.now) (g.R.RowStore.rows c.args.next.now) c.args.writes.now
    c.in_ok-gone.gone c.requires.good c.requires.next
    c.in_ok-gone.ensures (sym c.in_ok-puts_orphan.ensures ∙ c.if-branch.false)
    (nil_from_length c.in_ok-gone.gone.keys (c.is_empty.ensures.0 c.if-is_empty.true))

pub returns : goal.returns
returns g c =
    declared_told (g.R.RowStore.rows c.args.rows.now) (g.R.RowStore.rows c.args.next.now) c.args.writes.now
    c.in_ok-gone.gone c.in_ok-some_names.field-0
    c.requires.good c.requires.next c.in_ok-gone.ensures (sym c.in_ok-puts_orphan.ensures ∙ c.if-branch.false)
    c.in_ok-some_names.ensures
