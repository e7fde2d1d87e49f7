-- What a sort and the removal of equal neighbours leave is the set.
use Rattle.std.proofs.lemmas.List.Filters.{dedup_is}
use Rattle.alto_maps.specs.Shape.{same_name}
use Rattle.cost_filters.proofs.NamesLemmas.{sorted_set}
use Rattle.cost_filters.proofs.names.distinct_names.Goals as goal

pub returns : goal.returns
returns c =
    let sorted = c.sort.new.self.items in
    let left = c.dedup.new.self.items in
    sorted_set c.args.names.items sorted left c.in_ok-sort.ensures.permutation c.in_ok-sort.ensures.sorted
    (dedup_is same_name sorted left c.dedup.ensures.filtered)
