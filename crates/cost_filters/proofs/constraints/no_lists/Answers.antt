use Rattle.std.proofs.Common.{◌∙◌, rules, ap, sym, Err}
use Rattle.cost_filters.proofs.ConstraintLemmas.{lists_fault}
use Rattle.cost_filters.proofs.constraints.no_lists.Goals as goal

pub returns-in_ok-wrong_value-clause-err : goal.returns-in_ok-wrong_value-clause-err
returns-in_ok-wrong_value-clause-err c not_memory =
    lists_fault c.args.items.now (search rules) ∙ ap Err (sym c.in_ok-wrong_value.ensures)
