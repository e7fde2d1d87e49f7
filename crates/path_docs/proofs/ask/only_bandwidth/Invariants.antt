use Rattle.std.proofs.Common.{◌≡◌, drop}
use Rattle.json_tree.specs.Tree.{items_data}
use Rattle.path_docs.specs.Ask.{only_bandwidth}
use Rattle.path_docs.proofs.ask.only_bandwidth.Given as goal

-- the items so far ask for the bandwidth
abbrev pub invariant-loop-item : goal.invariant-loop-item
invariant-loop-item l = only_bandwidth (items_data l.items) ≡ only_bandwidth (items_data (drop l.item-index l.items))
