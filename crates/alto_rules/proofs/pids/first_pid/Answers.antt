-- The first row is of the PID where its names are.
use Rattle.std.proofs.Common.{◌∙◌}
use Rattle.alto_rules.proofs.PidLemmas.{first_there, same_pid}
use Rattle.alto_rules.proofs.pids.first_pid.Goals as goal

pub returns-in-Pid-clause-row : goal.returns-in-Pid-clause-row
returns-in-Pid-clause-row c =
    first_there c.args.pids.now _ _ c.in_ok-key.ensures.value
    (c.in-Pid.is
    ∙ same_pid (c.are_same.ensures c.if-are_same.true) (c.are_same-then-are_same.ensures c.if-are_same-2.true))
