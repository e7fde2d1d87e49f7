use Rattle.std.proofs.lemmas.Result.{err_from_is_err_and}
use Rattle.code_bytes.proofs.NumberLemmas.{from_whole, to_whole}
use Rattle.code_bytes.proofs.StuckLemmas.{stops_same}
use Rattle.code_bytes.proofs.number.read_number.Goals as goal

pub returns-in_err-value-clause-stops : goal.returns-in_err-value-clause-stops
returns-in_err-value-clause-stops c =
    let p = err_from_is_err_and c.from_residual.result c.from_residual.ensures.1 in
    rw (p.1, p.2) (stops_same _ _ c.args.bytes.now c.in_err-value.field-0.0
    (from_whole c.args.count c.args.least c.args.most)
    (λ text. to_whole c.args.count c.args.least c.args.most text c.requires.fits) c.in_err-value.ensures.stops)
