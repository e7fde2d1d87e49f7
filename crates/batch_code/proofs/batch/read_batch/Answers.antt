use Rattle.std.proofs.lemmas.Result.{err_from_is_err_and}
use Rattle.batch_code.proofs.BatchLemmas.{body_stops, id_stops, mark_stops, second_stops}
use Rattle.batch_code.proofs.batch.read_batch.Goals as goal

pub returns-in_err-rest-clause-stops : goal.returns-in_err-rest-clause-stops
returns-in_err-rest-clause-stops c =
    let p = err_from_is_err_and c.from_residual.result c.from_residual.ensures.1 in
    rw (p.1, p.2) (mark_stops c.args.bytes.now c.in_err-rest.field-0.0 c.in_err-rest.ensures.stops)

pub returns-in_err-rest-2-clause-stops : goal.returns-in_err-rest-2-clause-stops
returns-in_err-rest-2-clause-stops c =
    let p = err_from_is_err_and c.from_residual-in_err-rest-2.result c.from_residual-in_err-rest-2.ensures.1 in
    rw (p.1, p.2) (second_stops c.args.bytes.now c.in_ok-rest.rest.now c.in_err-rest-2.field-0.0 c.in_ok-rest.ensures.ok
    c.in_err-rest-2.ensures.stops)

pub returns-in_err-id-clause-stops : goal.returns-in_err-id-clause-stops
returns-in_err-id-clause-stops c =
    let p = err_from_is_err_and c.from_residual-in_err-id.result c.from_residual-in_err-id.ensures.1 in
    rw (p.1, p.2) (id_stops c.args.bytes.now c.in_ok-rest.rest.now c.in_ok-rest-2.rest.now c.in_err-id.field-0.0
    c.in_ok-rest.ensures.ok c.in_ok-rest-2.ensures.ok c.in_err-id.ensures.stops)

pub returns-in_err-body-clause-stops : goal.returns-in_err-body-clause-stops
returns-in_err-body-clause-stops c =
    let p = err_from_is_err_and c.from_residual-in_err-body.result c.from_residual-in_err-body.ensures.1 in
    rw (p.1, p.2) (body_stops c.args.bytes.now c.in_ok-rest.rest.now c.in_ok-rest-2.rest.now c.in_ok-id.rest.now
    c.in_ok-id.id c.in_err-body.field-0.0 c.in_ok-rest.ensures.ok c.in_ok-rest-2.ensures.ok c.in_ok-id.ensures.ok.0
    c.in_ok-id.ensures.ok.1 c.in_err-body.ensures.stops)
