use Rattle.std.proofs.lemmas.Result.{err_from_is_err_and}
use Rattle.base_code.proofs.PieceLemmas.{kept_digest, kept_first, kept_moment}
use Rattle.base_code.proofs.receipt.read_kept.Goals as goal

pub returns-in_err-id-clause-stops : goal.returns-in_err-id-clause-stops
returns-in_err-id-clause-stops c =
    let p = err_from_is_err_and c.from_residual.result c.from_residual.ensures.1 in
    rw (p.1, p.2) (kept_first c.args.bytes.now c.in_err-id.field-0.0 c.in_err-id.ensures.stops)

pub returns-in_err-front-clause-stops : goal.returns-in_err-front-clause-stops
returns-in_err-front-clause-stops c =
    let p = err_from_is_err_and c.from_residual-in_err-front.result c.from_residual-in_err-front.ensures.1 in
    rw (p.1, p.2) (kept_digest c.args.bytes.now c.in_ok-id.rest.now c.in_ok-id.id c.in_err-front.field-0.0
    c.in_ok-id.ensures.ok.0 c.in_ok-id.ensures.ok.1 c.in_err-front.ensures.stops)

pub returns-in_err-moment-clause-stops : goal.returns-in_err-moment-clause-stops
returns-in_err-moment-clause-stops c =
    let p = err_from_is_err_and c.from_residual-in_err-moment.result c.from_residual-in_err-moment.ensures.1 in
    rw (p.1, p.2) (kept_moment c.args.bytes.now c.in_ok-id.rest.now c.in_ok-front.rest.now c.in_ok-id.id
    c.in_ok-front.front.now c.in_err-moment.field-0.0 c.in_ok-id.ensures.ok.0 c.in_ok-id.ensures.ok.1
    c.in_ok-front.ensures.ok.0 c.in_ok-front.ensures.ok.1 c.in_err-moment.ensures.stops)
