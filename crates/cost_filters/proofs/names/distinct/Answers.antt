-- What a sort and the removal of equal neighbours leave is the set.
use Rattle.std.proofs.Common.{◌∙◌, ap}
use Rattle.std.proofs.lemmas.List.Filters.{dedup_is}
use Rattle.std.specs.Prelude.{List}
use Rattle.alto_maps.specs.Places.{set_of}
use Rattle.alto_maps.specs.Shape.{Name, same_name}
use Rattle.cost_filters.proofs.NamesLemmas.{sorted_set}
use Rattle.cost_filters.proofs.names.distinct.Goals as goal

pub returns : goal.returns
returns c =
    let copies = c.in_ok-set.set.items in
    let sorted = c.sort.new.self.items in
    let left = c.dedup.new.self.items in
    sorted_set copies sorted left c.in_ok-sort.ensures.permutation c.in_ok-sort.ensures.sorted
    (dedup_is same_name sorted left c.dedup.ensures.filtered)
    ∙ ap (λ (names : List Name). set_of names) c.in_ok-set.ensures
