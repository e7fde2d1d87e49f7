use Rattle.std.proofs.lemmas.Result.{err_from_is_err_and}
use Rattle.batch_code.proofs.ValueLemmas.{list_first, list_next}
use Rattle.batch_code.proofs.value.read_anes.Goals as goal

pub returns-in_err-count-clause-stops : goal.returns-in_err-count-clause-stops
returns-in_err-count-clause-stops c =
    let p = err_from_is_err_and c.from_residual.result c.from_residual.ensures.1 in
    rw (p.1, p.2) (list_first c.args.bytes.now c.in_err-count.field-0.0 c.in_err-count.ensures.stops)

pub returns-in_err-names-clause-stops : goal.returns-in_err-names-clause-stops
returns-in_err-names-clause-stops c =
    let p = err_from_is_err_and c.from_residual-in_err-names.result c.from_residual-in_err-names.ensures.1 in
    rw (p.1, p.2) (list_next c.in_ok-count.count c.args.bytes.now c.in_ok-count.rest.now c.in_err-names.field-0.0
    c.in_ok-count.ensures.ok.0 c.in_ok-count.ensures.ok.1 c.in_ok-count.ensures.ok.2
    c.in_err-names.ensures.stops)
