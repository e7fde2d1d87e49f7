use Rattle.std.proofs.Common.{arith}
use Rattle.std.proofs.lemmas.Result.{err_from_is_err_and}
use Rattle.alto_commands.proofs.BodyLemmas.{no_body}
use Rattle.alto_commands.proofs.body.read_body.Goals as goal

pub returns-in_err-read_piece-clause-err : goal.returns-in_err-read_piece-clause-err
returns-in_err-read_piece-clause-err g c =
    let p = err_from_is_err_and c.from_residual.result c.from_residual.ensures.1 in
    let read = c.in_err-read_piece.ensures in
    rw (p.1, p.2)
    (no_body c.in_err-read_piece.field-0.0 c.pieces.body.items _ _ _ c.pieces.invariant.came
    (omega (arith, c.pieces.body.ok, c.len.ensures)) read.lost read.failed read.own)
