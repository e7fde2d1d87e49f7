use Rattle.std.proofs.Common.{◌≡◌, map, take}
use Rattle.std.specs.Prelude.{option_map}
use Rattle.json_tree.specs.Document.{members_of}
use Rattle.json_tree.specs.Members.{members_data}
use Rattle.cost_docs.specs.Costs.{group_shown}
use Rattle.cost_docs.proofs.groups.groups_of.Given as goal

-- the groups so far are those of the sources so far
abbrev pub invariant-loop-source : goal.invariant-loop-source
invariant-loop-source g l =
    let rows = g.R.RowStore.rows l.rows in
    let ranks = option_map (λ ranks. ranks.now) l.ranks in
    members_data l.groups ≡ members_of (map (λ source. (source, group_shown ranks rows l.net l.metric source))
    (take l.source-index l.sources))
