-- The texts of all items are those so far and those of the items that are left.
use Rattle.std.proofs.Common.{◌≡◌, ◌++◌, Ok, drop, map}
use Rattle.json_tree.specs.Tree.{items_data}
use Rattle.alto_asks.specs.Asks.{◌>>=◌, texts_of}
use Rattle.alto_asks.proofs.asks.texts_of.Given as goal

abbrev pub invariant-loop-item : goal.invariant-loop-item
invariant-loop-item l =
    texts_of l.field (items_data l.items)
    ≡ texts_of l.field (items_data (drop l.item-index l.items)) >>= λ more.
    Ok (map (λ text. text.now) l.texts.items ++ more)
