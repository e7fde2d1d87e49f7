use Rattle.std.proofs.lemmas.Result.{err_from_is_err_and}
use Rattle.batch_code.proofs.WriteLemmas.{write_bad, write_none, write_on}
use Rattle.batch_code.proofs.write.read_write.Goals as goal

pub returns-in_default-clause-stops : goal.returns-in_default-clause-stops
returns-in_default-clause-stops c = write_none c.args.bytes.now c.in_default.ensures

pub returns-in_default-of-clause-stops : goal.returns-in_default-of-clause-stops
returns-in_default-of-clause-stops c =
    write_bad c.in-Some.number c.args.bytes.now c.in-Some.rest.now c.in-Some.ensures.0 c.in_default-of.ensures

pub returns-in_err-write-clause-stops : goal.returns-in_err-write-clause-stops
returns-in_err-write-clause-stops c =
    let p = err_from_is_err_and c.from_residual.result c.from_residual.ensures.1 in
    rw (p.1, p.2) (write_on c.in-Some-of.of c.in-Some.number c.args.bytes.now c.in-Some.rest.now
    c.in_err-write.field-0.0 c.in-Some.ensures.0 c.in-Some-of.ensures c.in_err-write.ensures.stops)
