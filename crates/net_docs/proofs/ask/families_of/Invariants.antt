use Rattle.std.proofs.Common.{◌≡◌, ◌++◌, Ok, drop}
use Rattle.json_tree.specs.Tree.{items_data}
use Rattle.alto_asks.specs.Asks.{◌>>=◌}
use Rattle.net_docs.specs.Ask.{families_of}
use Rattle.net_docs.proofs.ask.families_of.Given as goal

-- the families of all items are those so far and those of the items that are left
abbrev pub invariant-loop-item : goal.invariant-loop-item
invariant-loop-item l =
    families_of (items_data l.items) ≡ families_of (items_data (drop l.item-index l.items)) >>= λ more.
    Ok (l.families.items ++ more)
