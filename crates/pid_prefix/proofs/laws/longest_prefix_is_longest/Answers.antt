use Rattle.pid_prefix.proofs.LongestLemmas.{longest_prefix_answers}
use Rattle.pid_prefix.proofs.laws.longest_prefix_is_longest.Goals as goal

pub returns : goal.returns
returns c = longest_prefix_answers
