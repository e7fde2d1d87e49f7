-- The pairs from one source.
use Rattle.std.specs.Prelude.{map}
use Rattle.cost_filters.specs.declared.pairs_from.Found.{Found}
use Rattle.cost_filters.specs.declared.pairs_from.Found.TheVariants as found
use Rattle.cost_filters.specs.Between as between
use Rattle.cost_filters.specs.Between.{one_cost, pairs_at}

-- those of single costs, or of the source at a place
abbrev pub found_in : Found → between.Found
found_in (found.Costs costs) = map one_cost costs.now
found_in (found.At pairs src) = pairs_at pairs.now src
