use Rattle.std.proofs.lemmas.List.Filters.{dedup_is}
use Rattle.endpoint_costs.proofs.OrderedLemmas.{ordered, same_end}
use Rattle.endpoint_costs.proofs.ordered.in_order.Goals as goal

pub returns : goal.returns
returns c =
    let sorted = c.sort_unstable.new.self.items in
    let left = c.dedup.new.self.items in
    ordered c.args.ends.items sorted left c.sort_unstable.ensures.permutation c.sort_unstable.ensures.sorted
    (dedup_is same_end sorted left c.dedup.ensures.filtered)
