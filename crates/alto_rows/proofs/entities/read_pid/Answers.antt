use Rattle.alto_rows.proofs.EntityLemmas.{no_pid}
use Rattle.alto_rows.proofs.entities.read_pid.Goals as goal

pub returns-in-None-2 : goal.returns-in-None-2
returns-in-None-2 c =
    no_pid c.args.net.now c.args.text.now c.in-Some.part.now c.in-Some.ensures
    (rw c.in-None-2.is at c.in_ok-pid-in-Some.ensures)
