use Rattle.std.proofs.Common.{◌≡◌, ◌++◌, ◌-◌, drop, length, map}
use Rattle.json_tree.specs.Tree.{members_in_order}
use Rattle.serde_json.specs.Written.{compact_text, members_text}
use Rattle.cost_docs.specs.Kept.{cost_member, costs_object}
use Rattle.cost_docs.proofs.kept.push_costs.Given as goal

-- the text so far, and that of the costs that are left, are all
abbrev pub invariant-loop-destination : goal.invariant-loop-destination
invariant-loop-destination l =
    record {
      all : l.count ≡ length l.costs;
      text : l.out ++ members_text l.later (members_in_order (map cost_member (drop l.place l.costs)))
          ≡ l.fn.out ++ compact_text (costs_object l.costs);
    }

abbrev pub decreases-loop-destination : goal.decreases-loop-destination
decreases-loop-destination l = l.count - l.place
