use Rattle.std.proofs.lemmas.Result.{err_from_is_err_and}
use Rattle.base_code.proofs.PieceLemmas.{first_b, first_count}
use Rattle.base_code.proofs.beginning.read_first.Goals as goal

pub returns-in_err-b-clause-stops : goal.returns-in_err-b-clause-stops
returns-in_err-b-clause-stops c =
    let p = err_from_is_err_and c.from_residual-in_err-b.result c.from_residual-in_err-b.ensures.1 in
    rw (p.1, p.2) (first_b c.args.piece.now c.in_ok-rest.rest.now c.in_ok-rest-2.rest.now c.in_err-b.field-0.0
    c.in_ok-rest.ensures.ok c.in_ok-rest-2.ensures.ok c.in_err-b.ensures.stops)

pub returns-in_err-count-clause-stops : goal.returns-in_err-count-clause-stops
returns-in_err-count-clause-stops c =
    let p = err_from_is_err_and c.from_residual-in_err-count.result c.from_residual-in_err-count.ensures.1 in
    rw (p.1, p.2) (first_count c.args.piece.now c.in_ok-rest.rest.now c.in_ok-rest-2.rest.now c.in_ok-b.rest.now
    c.in_ok-b.b c.in_err-count.field-0.0 c.in_ok-rest.ensures.ok
    c.in_ok-rest-2.ensures.ok c.in_ok-b.ensures.ok.2 c.in_ok-b.ensures.ok.1 c.in_err-count.ensures.stops)
