use Rattle.std.proofs.lemmas.Result.{err_from_is_err_and}
use Rattle.batch_code.proofs.KeyLemmas.{block_stops, pid_stops}
use Rattle.batch_code.proofs.key.read_entity.Goals as goal

pub returns-in_err-pid-clause-stops : goal.returns-in_err-pid-clause-stops
returns-in_err-pid-clause-stops c =
    let p = err_from_is_err_and c.from_residual.result c.from_residual.ensures.1 in
    rw (p.1, p.2) (pid_stops c.args.bytes.now c.in-Some.rest.now c.in_err-pid.field-0.0 c.in-Some.ensures
    c.in_err-pid.ensures.stops)

pub returns-in_err-block-clause-stops : goal.returns-in_err-block-clause-stops
returns-in_err-block-clause-stops c =
    let p = err_from_is_err_and c.from_residual-in_err-block.result c.from_residual-in_err-block.ensures.1 in
    rw (p.1, p.2) (block_stops c.args.bytes.now c.in_err-block.field-0.0 c.in_default.ensures
    c.in_err-block.ensures.stops)
