use Rattle.std.proofs.Common.{◌≡◌, ◌++◌, length, map}
use Rattle.std.specs.Arc.{arc_value}
use Rattle.shared_list.specs.Order.{InOrder, before, behind}
use Rattle.shared_list.proofs.rest.share_items_before.Given as goal

-- of the items that are left the same are to be shared still, and the same stand behind the name
abbrev pub invariant-loop-item : goal.invariant-loop-item
invariant-loop-item g l =
    let name = g.T.Named.name in
    record {
      shared : l.shared ++ before name l.name (map arc_value l.left) ≡ l.initial.shared
          ++ before name l.name (map arc_value l.items);
      left : behind name l.name (map arc_value l.left) ≡ behind name l.name (map arc_value l.items);
      order : InOrder name (map arc_value l.left);
    }

abbrev pub decreases-loop-item : goal.decreases-loop-item
decreases-loop-item g l = length l.left
