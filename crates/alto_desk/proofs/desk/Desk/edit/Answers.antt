-- The answer to an id that has a batch, and that another is new.
use Rattle.alto_book.specs.Acceptance.{answer_known}
use Rattle.alto_desk.proofs.AcceptLemmas.{known_book, known_err, known_ok}
use Rattle.alto_desk.proofs.KnownLemmas.{known_of, new_of}
use Rattle.alto_desk.proofs.desk.Desk.edit.Goals as goal

pub returns-in-Some-clause-ok : goal.returns-in-Some-clause-ok
returns-in-Some-clause-ok g c =
    let found = known_of _ c.args.command c.in-Some.answer (λ numbered. answer_known numbered c.args.command)
    c.in-Some.ensures in
    known_ok _ c.args.command c.args.moment found.numbered _ found.is found.same

pub returns-in-Some-clause-err : goal.returns-in-Some-clause-err
returns-in-Some-clause-err g c =
    let found = known_of _ c.args.command c.in-Some.answer (λ numbered. answer_known numbered c.args.command)
    c.in-Some.ensures in
    known_err _ c.args.command c.args.moment found.numbered _ found.is found.same

pub returns-in-Some-clause-accepted : goal.returns-in-Some-clause-accepted
returns-in-Some-clause-accepted g c =
    let found = known_of _ c.args.command c.in-Some.answer (λ numbered. answer_known numbered c.args.command)
    c.in-Some.ensures in
    known_book _ c.args.command c.args.moment found.numbered _ found.is

pub accept_new-requires-clause-new : goal.accept_new-requires-clause-new
accept_new-requires-clause-new g c = new_of _ c.args.command (λ numbered. answer_known numbered c.args.command)
    c.in_default.ensures
