use Rattle.std.proofs.Common.{◌≡◌, ◌++◌, Ok, drop, map}
use Rattle.json_tree.specs.Tree.{items_data}
use Rattle.alto_asks.specs.Asks.{◌>>=◌}
use Rattle.cost_filters.specs.Constraints.{alternatives_in}
use Rattle.cost_filters.proofs.constraints.alternatives_in.Given as goal

-- the alternatives of all items are those so far and those of the items that are left
abbrev pub invariant-loop-item : goal.invariant-loop-item
invariant-loop-item l =
    alternatives_in l.types (items_data l.items)
    ≡ alternatives_in l.types (items_data (drop l.item-index l.items))
    >>= λ more. Ok (map (λ constraints. constraints.items) l.alternatives.items ++ more)
