-- The walk goes over all rows.
use Rattle.std.proofs.Common.{ap, ◌∙◌}
use Rattle.std.specs.List.{list_any}
use Rattle.alto_rows.specs.Rows.{Rows}
use Rattle.batch_check.proofs.DeclaredLemmas.{all_from_first}
use Rattle.base_check.specs.Numbered.{is_misnumbered}
use Rattle.base_check.proofs.numbered.some_misnumbered.Goals as goal

pub loop-row-init : goal.loop-row-init
loop-row-init g c =
    ap (λ (rows : Rows). list_any (is_misnumbered (g.R.RowStore.rows c.args.rows.now) c.args.number) rows)
    (c.into_iter-row-iterator.ensures.into_iter_gives
    ∙ (c.walk_from-row-items.ensures ∙ all_from_first (g.R.RowStore.rows c.args.rows.now)))
