use Rattle.std.proofs.Common.{ap, ◌∙◌}
use Rattle.cost_docs.specs.Costs.{has_rows}
use Rattle.cost_docs.proofs.SourceLemmas.{given_where}
use Rattle.cost_docs.proofs.source.has_rows.Goals as goal

pub returns : goal.returns
returns g c =
    c.is_some-found.ensures
    ∙ (given_where c.rows_in-walk.result c.next.new.self c.next.result c.next.ensures.steps
    ∙ ap has_rows c.rows_in-walk.ensures)
