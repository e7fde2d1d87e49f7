use Rattle.std.proofs.lemmas.Result.{IfOk-weaker}
use Rattle.alto_rows.proofs.EntityLemmas.{entity_block, entity_named}
use Rattle.alto_rows.proofs.entities.read_entity.Goals as goal

pub returns-in-Some : goal.returns-in-Some
returns-in-Some c =
    rw c.new.ensures
    (entity_block c.args.net.now c.args.text.now c.in-Some.block c.as_bytes-name.ensures.read_again c.in-Some.ensures)

pub returns-in-None : goal.returns-in-None
returns-in-None c =
    IfOk-weaker c.read_pid.result _ _
    (λ found is. entity_named c.args.net.now c.as_bytes-name.result.now c.args.text.now c.as_bytes-name.ensures.bytes
    c.as_bytes-name.ensures.read_again
    c.in-None.ensures found is)
    c.read_pid.ensures
