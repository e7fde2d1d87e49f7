-- The cost map of a row that was left is there.
use Rattle.std.proofs.Common.{sym, ◌∙◌}
use Rattle.std.specs.Prelude.{◌||◌}
use Rattle.std.specs.BTreeSet.{contains}
use Rattle.std.specs.List.{filter_map}
use Rattle.alto_rows.specs.Order.{resource_cmp}
use Rattle.alto_rows.specs.Versions.{cost_declared}
use Rattle.batch_check.specs.Touched.{is_among}
use Rattle.batch_check.proofs.TouchedLemmas.{with_cost}
use Rattle.batch_check.proofs.touched.with_all_costs.Goals as goal

pub loop-row-preserved-in-Some-2 : goal.loop-row-preserved-in-Some-2
loop-row-preserved-in-Some-2 g c =
    with_cost c.loop-row.all c.in_ok-all.all c.loop-row.metrics c.next.new.self c.in-Some.row.now c.in-Some-2.cost
    (λ one. contains resource_cmp c.args.touched one
    || is_among one (filter_map cost_declared c.args.metrics.now))
    c.in-Some.ensures.steps (sym c.in-Some-2.is ∙ c.in_ok-cost.ensures) c.in_ok-all.ensures c.loop-row.invariant
