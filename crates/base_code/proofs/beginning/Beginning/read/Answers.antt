use Rattle.std.proofs.lemmas.Result.{err_from_is_err_and}
use Rattle.base_code.proofs.NextLemmas.{bare_begins, bare_is, no_first_piece}
use Rattle.base_code.proofs.beginning.Beginning.read.Goals as goal

pub returns-in_err-b-clause-stops : goal.returns-in_err-b-clause-stops
returns-in_err-b-clause-stops c =
    let p = err_from_is_err_and c.from_residual.result c.from_residual.ensures.1 in
    rw (p.1, p.2) (no_first_piece c.args.piece.now c.in_err-b.field-0.0 c.in_err-b.ensures.stops)

pub returns-clause-ok : goal.returns-clause-ok
returns-clause-ok c =
    rw (c.new.ensures.items, c.new-2.ensures.items) (
      bare_is c.in_ok-b.b c.in_ok-b.count c.args.piece.now c.in_ok-b.ensures.ok,
      bare_begins c.in_ok-b.b c.in_ok-b.count
          c.args.piece.now c.in_ok-b.ensures.ok,
    )
