-- The rows behind the first are some of the rows too.
use Rattle.alto_rules.proofs.PidLemmas.{all_behind}
use Rattle.alto_rules.proofs.pids.led_to.Goals as goal

pub returns-then-is_some : goal.returns-then-is_some
returns-then-is_some c = λ rows all. all_behind rows _ _ _ c.in_ok-behind.ensures.cases.0 all
