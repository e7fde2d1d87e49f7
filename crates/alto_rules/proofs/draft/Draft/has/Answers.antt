-- The index tells of the keys that are written, the rows of all others.
use Rattle.std.proofs.Common.{ap, sym, ◌∙◌}
use Rattle.std.specs.Prelude.{Bool, Option}
use Rattle.std.specs.Option.{unwrap_or}
use Rattle.alto_rows.specs.Rows.{has_row}
use Rattle.alto_rules.specs.declared.kept.Kept.{Kept}
use Rattle.alto_rules.specs.Written.{told}
use Rattle.alto_rules.proofs.draft.Draft.has.Goals as goal

pub returns : goal.returns
returns g c =
    rw (← c.self.view_is)
    (c.has_row.ensures
    ∙ (ap (λ (written : Option Bool). unwrap_or written (has_row (g.R.RowStore.rows c.self.inside.rows.now)
    c.args.key.now)) (c.has.ensures ∙ ap (λ (kept : Kept). told kept.index.written c.args.key.now) c.deref.ensures)
    ∙ sym (c.self.invariant.indexed.rows_at c.args.key.now)))
