use Rattle.std.proofs.Common.{◌≡◌, ◌++◌, length, map}
use Rattle.std.specs.Arc.{arc_value}
use Rattle.std.specs.List.{flat_map}
use Rattle.shared_list.proofs.items.Items.next.Given as goal

-- the same items are left
abbrev pub invariant-loop-first : goal.invariant-loop-first
invariant-loop-first g l =
    map arc_value l.self-inside.items.now ++ flat_map arc_value l.self-inside.runs.now ≡ l.fn.self

abbrev pub decreases-loop-first : goal.decreases-loop-first
decreases-loop-first g l = length l.self-inside.runs.now
