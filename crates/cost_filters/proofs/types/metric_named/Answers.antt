use Rattle.std.proofs.Common.{◌∙◌, rules, ap, sym, Err}
use Rattle.cost_filters.proofs.TypesLemmas.{undeclared, unnamed}
use Rattle.cost_filters.proofs.types.metric_named.Goals as goal

pub returns-in_ok-wrong_member-in-Ok-clause-err : goal.returns-in_ok-wrong_member-in-Ok-clause-err
returns-in_ok-wrong_member-in-Ok-clause-err g c not_memory =
    undeclared (g.R.RowStore.rows c.args.rows.now) c.args.net.now c.args.field.now c.args.text.now c.in-Ok.metric
    (search rules) (search rules)
    ∙ ap Err (sym c.in_ok-wrong_member-in-Ok.ensures)

pub returns-in_ok-wrong_member-in-Err : goal.returns-in_ok-wrong_member-in-Err
returns-in_ok-wrong_member-in-Err g c = record {
  ok = tt;
  err = λ not_memory.
      unnamed (g.R.RowStore.rows c.args.rows.now) c.args.net.now c.args.field.now c.args.text.now
      c.in-Err.field-0 (search rules)
      ∙ ap Err (sym c.in_ok-wrong_member-in-Err.ensures);
}
