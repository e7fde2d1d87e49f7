use Rattle.std.proofs.Common.{◌≡◌, ◌++◌, drop, map}
use Rattle.std.specs.Prelude.{List, false}
use Rattle.serde_json.specs.Written.{members_text}
use Rattle.json_tree.specs.Tree.{members_in_order}
use Rattle.alto_maps.specs.Shape.{Name}
use Rattle.cost_filters.specs.Between.{pairs_at}
use Rattle.cost_filters.specs.Text.{member_start, shown_members}
use Rattle.cost_filters.proofs.pairs_between.PairsBetween.push_members.Given as goal

-- what is there, and the destinations that are left, make all members
abbrev pub invariant-loop-at : goal.invariant-loop-at
invariant-loop-at l = (names : List Name) → l.dsts ≡ map member_start names
    → l.out ++ members_text l.later
    (members_in_order (shown_members l.multi (drop l.at names) (drop l.at (pairs_at l.self l.src))))
    ≡ l.initial.out ++ members_text false (members_in_order (shown_members l.multi names (pairs_at l.self l.src)))
