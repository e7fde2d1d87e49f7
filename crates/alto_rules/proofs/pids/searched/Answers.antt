-- A run of the rows from a key on is of the rows.
use Rattle.alto_rules.proofs.PidLemmas.{run_of_all}
use Rattle.alto_rules.proofs.pids.searched.Goals as goal

pub returns : goal.returns
returns g c = c.if_first.ensures _ (run_of_all _ _ _ c.run_from-pids.ensures.run)
