use Rattle.std.proofs.Common.{◌++◌, Ok, drop, List}
use Rattle.std.specs.Prelude.{Result}
use Rattle.json_tree.specs.Tree.{items_data}
use Rattle.alto_addr.specs.declared.addr.Addr.{Addr}
use Rattle.alto_asks.specs.Asks.{◌>>=◌}
use Rattle.alto_asks.specs.declared.fault.AskFault.{AskFault}
use Rattle.endpoint_costs.specs.Ask.{ReadsAddrs}
use Rattle.endpoint_costs.proofs.addrs.addrs_in.Given as goal

-- whatever the items that are left are read as, all are read as the addresses so far and that
abbrev pub invariant-loop-item : goal.invariant-loop-item
invariant-loop-item l =
    (rest : Result (List Addr) AskFault) → ReadsAddrs l.field (items_data (drop l.item-index l.items)) rest
    → ReadsAddrs l.field (items_data l.items) (rest >>= λ more. Ok (l.addrs.items ++ more))
