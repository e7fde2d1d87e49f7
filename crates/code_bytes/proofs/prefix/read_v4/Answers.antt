use Rattle.std.proofs.lemmas.Result.{err_from_is_err_and}
use Rattle.code_bytes.proofs.PrefixLemmas.{first4, next4}
use Rattle.code_bytes.proofs.prefix.read_v4.Goals as goal

pub returns-in_err-number-clause-stops : goal.returns-in_err-number-clause-stops
returns-in_err-number-clause-stops c =
    let p = err_from_is_err_and c.from_residual.result c.from_residual.ensures.1 in
    rw (p.1, p.2) (first4 c.args.bytes.now c.in_err-number.field-0.0 c.in_err-number.ensures.stops)

pub returns-in_err-prefix-clause-stops : goal.returns-in_err-prefix-clause-stops
returns-in_err-prefix-clause-stops c =
    let p = err_from_is_err_and c.from_residual-in_err-prefix.result c.from_residual-in_err-prefix.ensures.1 in
    rw (p.1, p.2) (next4 c.in_ok-number.number c.args.bytes.now c.in_ok-number.rest.now c.in_err-prefix.field-0.0
    c.in_ok-number.ensures.ok.1 c.in_ok-number.ensures.ok.2
    c.in_err-prefix.ensures.stops)
