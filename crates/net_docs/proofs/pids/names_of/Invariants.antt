use Rattle.std.proofs.Common.{◌≡◌, take}
use Rattle.net_docs.proofs.pids.names_of.Given as goal

-- the names so far are those of the PIDs so far
abbrev pub invariant-loop-pid : goal.invariant-loop-pid
invariant-loop-pid l = l.names.items ≡ take l.pid-index l.pids
