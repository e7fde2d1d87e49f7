use Rattle.std.proofs.Common.{◌≡◌, ◌++◌, Ok, drop}
use Rattle.json_tree.specs.Tree.{items_data}
use Rattle.alto_asks.specs.Asks.{◌>>=◌}
use Rattle.cost_filters.specs.Constraints.{constraints_in}
use Rattle.cost_filters.proofs.constraints.constraints_in.Given as goal

-- the constraints of all items are those so far and those of the items that are left
abbrev pub invariant-loop-item : goal.invariant-loop-item
invariant-loop-item l =
    constraints_in l.types l.field (items_data l.items)
    ≡ constraints_in l.types l.field (items_data (drop l.item-index l.items)) >>= λ more.
    Ok (l.constraints.items ++ more)
