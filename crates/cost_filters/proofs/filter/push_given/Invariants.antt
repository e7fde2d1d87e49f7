use Rattle.std.proofs.Common.{◌≡◌, ◌++◌, drop}
use Rattle.std.specs.Prelude.{Some, false}
use Rattle.serde_json.specs.Written.{members_text}
use Rattle.json_tree.specs.Tree.{members_in_order}
use Rattle.cost_filters.specs.Columns.{valued}
use Rattle.cost_filters.specs.Text.{group_made}
use Rattle.cost_filters.proofs.filter.push_given.Given as goal

-- what is there, and the groups of the sources that are left, make all groups
abbrev pub invariant-loop-at : goal.invariant-loop-at
invariant-loop-at g l =
    let group = group_made l.multi (Some l.dsts) l.pairs in
    l.out ++ members_text l.later (members_in_order (valued group (drop l.at l.srcs)))
    ≡ l.initial.out ++ members_text false (members_in_order (valued group l.srcs))
