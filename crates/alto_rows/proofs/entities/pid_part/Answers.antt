use Rattle.alto_rows.proofs.EntityLemmas.{pid_part_is}
use Rattle.alto_rows.proofs.entities.pid_part.Goals as goal

pub returns-in-Some : goal.returns-in-Some
returns-in-Some c =
    pid_part_is c.args.net.now c.args.text.now c.in-Some.rest.now c.behind-in-Some.result c.in-Some.ensures
    c.behind-in-Some.ensures
