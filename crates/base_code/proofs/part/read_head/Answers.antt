use Rattle.std.proofs.lemmas.Result.{err_from_is_err_and}
use Rattle.base_code.proofs.PieceLemmas.{head_count, head_mark, head_second}
use Rattle.base_code.proofs.part.read_head.Goals as goal

pub returns-in_err-rest-clause-stops : goal.returns-in_err-rest-clause-stops
returns-in_err-rest-clause-stops c =
    let p = err_from_is_err_and c.from_residual.result c.from_residual.ensures.1 in
    rw (p.1, p.2) (head_mark c.args.mark c.args.count c.args.piece.now c.in_err-rest.field-0.0
    c.in_err-rest.ensures.stops)

pub returns-in_err-rest-2-clause-stops : goal.returns-in_err-rest-2-clause-stops
returns-in_err-rest-2-clause-stops c =
    let p = err_from_is_err_and c.from_residual-in_err-rest-2.result c.from_residual-in_err-rest-2.ensures.1 in
    rw (p.1, p.2) (head_second c.args.mark c.args.count c.args.piece.now c.in_ok-rest.rest.now c.in_err-rest-2.field-0.0
    c.in_ok-rest.ensures.ok c.in_err-rest-2.ensures.stops)

pub returns-in_err-rest-3-clause-stops : goal.returns-in_err-rest-3-clause-stops
returns-in_err-rest-3-clause-stops c =
    let p = err_from_is_err_and c.from_residual-in_err-rest-3.result c.from_residual-in_err-rest-3.ensures.1 in
    rw (p.1, p.2) (head_count c.args.mark c.args.count c.args.piece.now c.in_ok-rest.rest.now c.in_ok-rest-2.rest.now
    c.in_err-rest-3.field-0.0 c.in_ok-rest.ensures.ok c.in_ok-rest-2.ensures.ok
    c.in_err-rest-3.ensures.stops)
