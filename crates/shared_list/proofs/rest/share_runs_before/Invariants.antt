use Rattle.std.proofs.Common.{◌≡◌, ◌++◌, length}
use Rattle.std.specs.Arc.{arc_value}
use Rattle.std.specs.List.{flat_map}
use Rattle.shared_list.specs.Order.{InOrder, before, behind}
use Rattle.shared_list.proofs.rest.share_runs_before.Given as goal

-- of the runs that are left the same items are to be shared still, and the same stand behind the name
abbrev pub invariant-loop-first : goal.invariant-loop-first
invariant-loop-first g l =
    let name = g.T.Named.name in
    record {
      shared : l.shared ++ before name l.name (flat_map arc_value l.left) ≡ l.initial.shared
          ++ before name l.name (flat_map arc_value l.runs);
      left : behind name l.name (flat_map arc_value l.left) ≡ behind name l.name (flat_map arc_value l.runs);
      order : InOrder name (flat_map arc_value l.left);
    }

abbrev pub decreases-loop-first : goal.decreases-loop-first
decreases-loop-first g l = length l.left
