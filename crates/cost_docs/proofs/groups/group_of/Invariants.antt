use Rattle.std.proofs.Common.{◌≡◌, map, take, Some}
use Rattle.std.specs.Prelude.{option_map}
use Rattle.json_tree.specs.Document.{members_of}
use Rattle.json_tree.specs.Members.{members_data}
use Rattle.cost_docs.specs.declared.costs.Cost.{Cost}
use Rattle.cost_docs.specs.CostMap.{number_data}
use Rattle.cost_docs.specs.Costs.{shown}
use Rattle.cost_docs.proofs.groups.group_of.Given as goal

-- the members so far are the costs so far
abbrev pub invariant-loop-cost : goal.invariant-loop-cost
invariant-loop-cost l =
    let ranks = option_map (λ ranks. ranks.now) l.ranks in
    members_data l.group
    ≡ members_of (map (λ (cost : Cost). (cost.destination, number_data (Some (shown ranks cost.amount))))
    (take l.cost-index l.costs))
