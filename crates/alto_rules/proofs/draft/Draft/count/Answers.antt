-- The sizes tell the count.
use Rattle.std.proofs.Common.{ap, sym, ◌∙◌}
use Rattle.std.proofs.lemmas.Result.{IfOk-weaker}
use Rattle.alto_rules.specs.declared.kept.Kept.{Kept}
use Rattle.alto_rules.specs.Sizes.{count_from}
use Rattle.alto_rules.proofs.draft.Draft.count.Goals as goal

pub returns : goal.returns
returns g c =
    rw (← c.self.view_is)
    (IfOk-weaker c.count.result _ _
    (λ n h. h
    ∙ (ap (λ (kept : Kept). count_from (g.R.RowStore.rows c.self.inside.rows.now) kept.sizes.counts c.args.counted.now)
    c.deref.ensures
    ∙ sym (c.self.invariant.sized.each c.args.counted.now)))
    c.count.ensures)
