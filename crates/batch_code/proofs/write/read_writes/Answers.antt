use Rattle.std.proofs.lemmas.Result.{err_from_is_err_and}
use Rattle.batch_code.proofs.WriteLemmas.{lists_first, lists_next}
use Rattle.batch_code.proofs.write.read_writes.Goals as goal

pub returns-in_err-count-clause-stops : goal.returns-in_err-count-clause-stops
returns-in_err-count-clause-stops c =
    let p = err_from_is_err_and c.from_residual.result c.from_residual.ensures.1 in
    rw (p.1, p.2) (lists_first c.args.bytes.now c.in_err-count.field-0.0 c.in_err-count.ensures.stops)

pub returns-in_err-writes-clause-stops : goal.returns-in_err-writes-clause-stops
returns-in_err-writes-clause-stops c =
    let p = err_from_is_err_and c.from_residual-in_err-writes.result c.from_residual-in_err-writes.ensures.1 in
    rw (p.1, p.2) (lists_next c.in_ok-count.count c.args.bytes.now c.in_ok-count.rest.now c.in_err-writes.field-0.0
    c.in_ok-count.ensures.ok.1 c.in_ok-count.ensures.ok.2
    c.in_err-writes.ensures.stops)
