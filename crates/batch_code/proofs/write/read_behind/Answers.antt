use Rattle.std.proofs.lemmas.Result.{err_from_is_err_and}
use Rattle.batch_code.proofs.WriteLemmas.{behind_first, behind_next, behind_read}
use Rattle.batch_code.proofs.write.read_behind.Goals as goal

pub returns-in_err-key-clause-stops : goal.returns-in_err-key-clause-stops
returns-in_err-key-clause-stops c =
    let p = err_from_is_err_and c.from_residual.result c.from_residual.ensures.1 in
    rw (p.1, p.2) (behind_first c.args.of c.args.bytes.now c.in_err-key.field-0.0 c.in_err-key.ensures.stops)

pub returns-in-Err-clause-stops : goal.returns-in-Err-clause-stops
returns-in-Err-clause-stops c =
    behind_next c.args.of c.in_ok-key.key c.args.bytes.now c.in_ok-key.rest.now c.in-Err.stop
    c.in_ok-key.ensures.ok (rw c.shape.ensures at c.in-Err.ensures.stops)

pub returns-in-Ok-clause-ok : goal.returns-in-Ok-clause-ok
returns-in-Ok-clause-ok c =
    behind_read c.args.of c.in_ok-key.key c.in-Ok.value c.args.bytes.now c.in_ok-key.rest.now
    c.in-Ok.rest.now c.in_ok-key.ensures.ok
    (rw c.shape.ensures at c.in-Ok.ensures.ok.0) c.in-Ok.ensures.ok.1
