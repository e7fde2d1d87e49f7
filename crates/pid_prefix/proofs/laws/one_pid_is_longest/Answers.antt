use Rattle.pid_prefix.proofs.LongestLemmas.{one_longest}
use Rattle.pid_prefix.proofs.laws.one_pid_is_longest.Goals as goal

pub returns : goal.returns
returns c = one_longest
