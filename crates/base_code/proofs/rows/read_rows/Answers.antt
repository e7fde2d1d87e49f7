use Rattle.std.proofs.lemmas.Result.{IfErr-weaker, err_from_is_err_and}
use Rattle.base_code.proofs.RowLemmas.{rows_putless, rows_writeless}
use Rattle.base_code.proofs.rows.read_rows.Goals as goal

pub returns-in_err-writes-clause-stops : goal.returns-in_err-writes-clause-stops
returns-in_err-writes-clause-stops c =
    let p = err_from_is_err_and c.from_residual.result c.from_residual.ensures.1 in
    rw (p.1, p.2) (rows_writeless c.args.rows.now.items c.args.count c.args.piece.now c.in_err-writes.field-0.0
    c.in_err-writes.ensures.stops)

pub returns-clause-stops : goal.returns-clause-stops
returns-clause-stops c =
    IfErr-weaker c.push_puts.result _ _ (λ why never.
    rows_putless c.args.rows.now.items c.in_ok-writes.writes.items c.args.count c.args.piece.now why c.requires.few
    c.in_ok-writes.ensures.ok never) c.push_puts.ensures.stops
