-- The sizes tell the number of all rows.
use Rattle.std.proofs.Common.{ap, sym, ◌∙◌}
use Rattle.alto_rules.specs.declared.kept.Kept.{Kept}
use Rattle.alto_rules.proofs.draft.Draft.total.Goals as goal

pub returns : goal.returns
returns g c =
    rw (← c.self.view_is) (ap (λ (kept : Kept). kept.sizes.total) c.deref.ensures ∙ sym (c.self.invariant.sized.all))
