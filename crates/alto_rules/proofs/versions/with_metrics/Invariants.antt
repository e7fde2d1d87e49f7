-- What is there, with the cost maps of the keys that are left, makes the whole.
use Rattle.std.proofs.Common.{◌≡◌, drop}
use Rattle.std.specs.Prelude.{◌||◌}
use Rattle.std.specs.BTreeSet.{contains}
use Rattle.std.specs.List.{filter_map}
use Rattle.alto_rows.specs.declared.resource.Resource.{Resource}
use Rattle.alto_rows.specs.Order.{resource_cmp}
use Rattle.alto_rules.specs.Draft.{cost_of, is_among}
use Rattle.alto_rules.proofs.versions.with_metrics.Given as goal

abbrev pub invariant-loop-key : goal.invariant-loop-key
invariant-loop-key l = (one : Resource)
    → (contains resource_cmp l.all one || is_among one (filter_map cost_of (drop l.key-index l.keys)))
    ≡ (contains resource_cmp l.fn.touched one || is_among one (filter_map cost_of l.keys))
