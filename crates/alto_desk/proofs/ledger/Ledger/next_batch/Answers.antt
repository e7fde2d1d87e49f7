use Rattle.std.proofs.Common.{sym}
use Rattle.std.proofs.lemmas.Result.{err_from_is_err_and}
use Rattle.alto_desk.proofs.AcceptLemmas.{accepted_new, legal_new, refused}
use Rattle.alto_desk.proofs.RuleLemmas.{last_few, last_stored}
use Rattle.alto_desk.proofs.ledger.Ledger.next_batch.Goals as goal

pub returns-in_err-writes-clause-err : goal.returns-in_err-writes-clause-err
returns-in_err-writes-clause-err g c =
    let p = err_from_is_err_and c.from_residual.result c.from_residual.ensures.1 in
    rw (p.1, p.2) (refused _ c.args.command c.args.moment _ (sym c.requires.new) c.in_err-writes.ensures.err)

pub returns-clause-ok : goal.returns-clause-ok
returns-clause-ok g c =
    rw (c.batch_of.ensures.batch, c.max.ensures, c.last_moment.ensures)
    (accepted_new _ c.args.command c.args.moment _ (sym c.requires.new) c.in_ok-writes.ensures.ok)

pub returns-clause-new : goal.returns-clause-new
returns-clause-new g c = rw c.batch_of.ensures.batch c.requires.new

pub returns-clause-legal : goal.returns-clause-legal
returns-clause-legal g c =
    rw (c.batch_of.ensures.batch, c.max.ensures, c.last_moment.ensures)
    (legal_new _ c.args.command c.args.moment _ c.compile.ensures.legal c.requires.edits (sym c.requires.new)
    c.in_ok-writes.ensures.ok)

pub returns-clause-storable : goal.returns-clause-storable
returns-clause-storable g c =
    let legal = returns-clause-legal g c in
    record {
      id = c.batch_of.ensures.id;
      digest = c.batch_of.ensures.digest;
      moment = c.batch_of.ensures.moment;
      few = last_few _ _ legal;
      writes = last_stored _ _ legal;
    }
