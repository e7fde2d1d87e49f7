use Rattle.std.proofs.Common.{◌≡◌, ◌++◌, Ok, drop}
use Rattle.json_tree.specs.Tree.{items_data}
use Rattle.alto_asks.specs.Asks.{◌>>=◌}
use Rattle.cost_filters.specs.Types.{cost_types_in}
use Rattle.cost_filters.proofs.types.cost_types_in.Given as goal

-- the types of all items are those so far and those of the items that are left
abbrev pub invariant-loop-item : goal.invariant-loop-item
invariant-loop-item g l =
    let rows = g.R.RowStore.rows l.rows in
    cost_types_in rows l.net l.field (items_data l.items)
    ≡ cost_types_in rows l.net l.field (items_data (drop l.item-index l.items)) >>= λ more. Ok (l.types.items ++ more)
