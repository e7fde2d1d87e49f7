use Rattle.std.proofs.Common.{◌≡◌, drop}
use Rattle.std.specs.Arc.{arc_value}
use Rattle.std.specs.List.{flat_map}
use Rattle.shared_list.specs.Order.{InOrder, item_of}
use Rattle.shared_list.proofs.list.SharedList.search.Given as goal

-- the item is among those of the runs that are left, which are in order
abbrev pub invariant-loop-run : goal.invariant-loop-run
invariant-loop-run g l =
    let name = g.T.Named.name in
    let left = flat_map arc_value (drop l.run-index l.run-items) in
    record {
      found : item_of name left l.name ≡ item_of name l.self l.name;
      order : InOrder name left;
    }
