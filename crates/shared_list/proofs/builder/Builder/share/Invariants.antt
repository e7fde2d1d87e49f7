use Rattle.std.proofs.Common.{◌≡◌, ◌++◌, drop, map}
use Rattle.std.specs.Arc.{arc_value}
use Rattle.shared_list.proofs.builder.Builder.share.Given as goal

-- what is there, and the items that are left, are all
abbrev pub invariant-loop-item : goal.invariant-loop-item
invariant-loop-item g l =
    l.self ++ map arc_value (drop l.item-index l.items) ≡ l.initial.self ++ map arc_value l.items
