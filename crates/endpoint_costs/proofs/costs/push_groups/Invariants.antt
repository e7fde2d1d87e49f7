use Rattle.std.proofs.Common.{◌≡◌, ◌++◌, drop, map}
use Rattle.std.specs.Prelude.{List, false}
use Rattle.serde_json.specs.Written.{members_text}
use Rattle.json_tree.specs.Tree.{members_in_order}
use Rattle.alto_maps.specs.Shape.{Name}
use Rattle.cost_filters.specs.Text.{member_start}
use Rattle.endpoint_costs.specs.Entries.{groups_at}
use Rattle.endpoint_costs.proofs.costs.push_groups.Given as goal

-- what is there, and the groups of the sources that are left, make all groups
abbrev pub invariant-loop-at : goal.invariant-loop-at
invariant-loop-at l = (names : List Name) → l.dsts ≡ map member_start names
    → l.out ++ members_text l.later
    (members_in_order (groups_at l.multi names (drop l.at l.srcs) (drop l.at l.pairs)))
    ≡ l.initial.out ++ members_text false (members_in_order (groups_at l.multi names l.srcs l.pairs))
