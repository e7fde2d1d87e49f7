-- What is there, with what depends on the resources that are left, is what depends on all.
use Rattle.std.proofs.Common.{◌≡◌}
use Rattle.std.specs.Prelude.{◌||◌}
use Rattle.std.specs.BTreeSet.{contains}
use Rattle.std.specs.List.{flat_map}
use Rattle.alto_rows.specs.declared.resource.Resource.{Resource}
use Rattle.alto_rows.specs.Order.{resource_cmp}
use Rattle.alto_rules.specs.Draft.{dependents, is_among}
use Rattle.alto_rules.proofs.versions.all_dependents.Given as goal

abbrev pub invariant-loop-of : goal.invariant-loop-of
invariant-loop-of g l = (one : Resource)
    → (contains resource_cmp l.all one || is_among one (flat_map (dependents (g.R.RowStore.rows l.rows)) l.of-iterator))
    ≡ (contains resource_cmp l.initial.all one
    || is_among one (flat_map (dependents (g.R.RowStore.rows l.rows)) l.initial.of-iterator))
