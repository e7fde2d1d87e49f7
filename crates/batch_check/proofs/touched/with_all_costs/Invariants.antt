-- What is there, with the cost maps of the rows that are left, makes the whole. Each turn takes one of them.
use Rattle.std.proofs.Common.{◌≡◌, length}
use Rattle.std.specs.Prelude.{◌||◌}
use Rattle.std.specs.BTreeSet.{contains}
use Rattle.std.specs.List.{filter_map}
use Rattle.alto_rows.specs.declared.resource.Resource.{Resource}
use Rattle.alto_rows.specs.Order.{resource_cmp}
use Rattle.alto_rows.specs.Versions.{cost_declared}
use Rattle.batch_check.specs.Touched.{is_among}
use Rattle.batch_check.proofs.touched.with_all_costs.Given as goal

abbrev pub invariant-loop-row : goal.invariant-loop-row
invariant-loop-row g l = (one : Resource)
    → (contains resource_cmp l.all one || is_among one (filter_map cost_declared l.metrics))
    ≡ (contains resource_cmp l.fn.touched one || is_among one (filter_map cost_declared l.initial.metrics))

abbrev pub decreases-loop-row : goal.decreases-loop-row
decreases-loop-row g l = length l.metrics
