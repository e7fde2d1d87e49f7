use Rattle.std.proofs.Common.{take}
use Rattle.pid_prefix.proofs.PidsLemmas.{Packs}
use Rattle.pid_prefix.proofs.pids.Pids.packed.Given as goal

-- the PIDs so far
abbrev pub invariant-loop-pid : goal.invariant-loop-pid
invariant-loop-pid l = Packs (take l.pid-index l.pids) l.are_pids.items l.names.items
