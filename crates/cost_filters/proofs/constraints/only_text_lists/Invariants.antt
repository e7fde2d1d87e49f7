use Rattle.std.proofs.Common.{◌≡◌, drop}
use Rattle.json_tree.specs.Tree.{items_data}
use Rattle.cost_filters.specs.Constraints.{only_text_lists}
use Rattle.cost_filters.proofs.constraints.only_text_lists.Given as goal

-- the items so far are lists of texts
abbrev pub invariant-loop-item : goal.invariant-loop-item
invariant-loop-item l = only_text_lists (items_data l.items) ≡ only_text_lists (items_data (drop l.item-index l.items))
