-- The walk goes over all rows.
use Rattle.std.proofs.Common.{ap, ◌∙◌}
use Rattle.batch_check.proofs.DeclaredLemmas.{all_from_first}
use Rattle.alto_desk.proofs.StoredRowsLemmas.{behind, behind_next}
use Rattle.alto_desk.proofs.next_base.stored_rows.Goals as goal

pub loop-row-init : goal.loop-row-init
loop-row-init g c =
    rw c.in_ok-stored.ensures.items
    (ap behind (c.into_iter-row-iterator.ensures.into_iter_gives
    ∙ (c.walk_from-row-items.ensures ∙ all_from_first (g.R.RowStore.rows c.args.rows.now))))

pub loop-row-preserved : goal.loop-row-preserved
loop-row-preserved g c =
    behind_next c.loop-row.stored.items _ c.loop-row.row-iterator _ (g.R.RowStore.rows c.args.rows.now)
    c.in-Some.row.now c.loop-row.invariant c.in-Some.ensures.steps
    c.in_ok-add_stored.ensures
