use Rattle.prop_filters.proofs.InheritLemmas.{inherits_exactly}
use Rattle.prop_filters.proofs.laws.inheriting_is_from_the_longest_block.Goals as goal

pub returns : goal.returns
returns c = inherits_exactly
