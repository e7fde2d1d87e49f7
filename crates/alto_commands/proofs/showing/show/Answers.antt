use Rattle.std.proofs.Common.{◌∙◌}
use Rattle.alto_book.specs.Book.{rows_of}
use Rattle.alto_book.proofs.StateLemmas.{good_rows}
use Rattle.alto_commands.specs.Show.{document_named, show_report}
use Rattle.alto_commands.proofs.ReportLemmas.{told_nothing}
use Rattle.alto_commands.proofs.ShowLemmas.{shows_none, shows_of_book}
use Rattle.alto_commands.proofs.StoreLemmas.{finds}
use Rattle.alto_commands.proofs.showing.show.Goals as goal

pub returns-in-Err-clause-shown : goal.returns-in-Err-clause-shown
returns-in-Err-clause-shown g c =
    shows_none _ _ _ _ _ _ c.in-Err.fault c.in-Err.ensures.refused c.say_unopened.ensures.told

pub returns-in-Err-clause-faults : goal.returns-in-Err-clause-faults
returns-in-Err-clause-faults g c = c.in-Err.ensures.counted ∙ c.say_unopened.ensures.faults _

pub document_line-text-requires : goal.document_line-text-requires
document_line-text-requires g c =
    rw (c.deref.ensures, c.front.ensures.stands.current) (good_rows _ c.front.ensures.legal)

pub returns-in-Ok-text-clause-shown : goal.returns-in-Ok-text-clause-shown
returns-in-Ok-text-clause-shown g c =
    let book = c.in-Ok.desk.ledger.book in
    shows_of_book _ _ _ _ _ _ book
    (finds _ _ _ (λ clean stored was.
    let both = c.close.ensures.clean clean in
    (c.in-Ok.ensures.opened both.0 (rw c.into_keeper.ensures at both.1) stored was).1))
    (c.say_document.ensures.told (document_named (rows_of book) c.args.resource.now)
    (rw (c.deref.ensures, c.front.ensures.stands.current) at c.in-Ok-text.ensures))

pub returns-in-Err-text-clause-shown : goal.returns-in-Err-text-clause-shown
returns-in-Err-text-clause-shown g c =
    let book = c.in-Ok.desk.ledger.book in
    shows_of_book _ _ _ _ _ _ book
    (finds _ _ _ (λ clean stored was.
    let both = c.close.ensures.clean clean in
    (c.in-Ok.ensures.opened both.0 (rw c.into_keeper.ensures at both.1) stored was).1))
    (told_nothing (show_report (document_named (rows_of book) c.args.resource.now)) _)
