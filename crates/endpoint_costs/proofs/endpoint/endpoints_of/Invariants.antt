use Rattle.std.proofs.Common.{◌≡◌, ◌++◌, drop}
use Rattle.std.specs.List.{AllByRecursion}
use Rattle.endpoint_costs.specs.Costs.{endpoints_of}
use Rattle.endpoint_costs.specs.Entries.{IsWritten}
use Rattle.endpoint_costs.proofs.endpoint.endpoints_of.Given as goal

-- the endpoints that are there, and those of the addresses that are left, are all
abbrev pub invariant-loop-addr : goal.invariant-loop-addr
invariant-loop-addr l = record {
  are : l.ends.items ++ endpoints_of l.table (drop l.addr-index l.addrs) ≡ endpoints_of l.table l.addrs;
  written : AllByRecursion (IsWritten l.table) l.ends.items;
}
