use Rattle.std.proofs.Common.{◌≡◌, take}
use Rattle.alto_directory.proofs.capabilities.with_pid.Given as goal

abbrev pub invariant-loop-name : goal.invariant-loop-name
invariant-loop-name l = l.all.items ≡ take l.name-index l.names
