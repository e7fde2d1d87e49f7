-- The row of the batch is kept, and what a crash may leave stands for the book with the batch or without it.
use Rattle.std.proofs.Common.{◌≡◌, sym, ap, ◌∙◌, subst}
use Rattle.std.specs.Prelude.{None}
use Rattle.std.specs.Arc.{arc_value}
use Rattle.alto_book.specs.Acceptance.{known, with_batch}
use Rattle.alto_book.specs.Book.{Book, all_kept}
use Rattle.alto_book.specs.Legal.{IsLegal}
use Rattle.alto_rows.specs.Accepted.{Accepted}
use Rattle.batch_code.specs.Spelling.{batch_bytes}
use Rattle.batch_code.specs.Storable.{IsStorable}
use Rattle.alto_desk.specs.Crash.{IsSafe}
use Rattle.alto_desk.specs.Ledger.{HasRoom, LedgerData}
use Rattle.alto_desk.proofs.CrashLemmas.{safe_added, safe_unless_added}
use Rattle.alto_desk.proofs.RecordLemmas.{backs_more}
use Rattle.alto_desk.proofs.desk.Desk.accept_new.Goals as goal

pub reserve-requires : goal.reserve-requires
reserve-requires g c =
    subst (λ (batch : Accepted). known (all_kept c.args.self.now.ledger.book) batch.id ≡ None)
    (sym (c.deref-3.ensures ∙ c.in_ok-batch.ensures.ok)) c.in_ok-next_batch.ensures.new

pub add-requires-clause-room : goal.add-requires-clause-room
add-requires-clause-room g c =
    subst (λ (ledger : LedgerData). HasRoom ledger (arc_value c.in_ok-batch.batch).id) (sym c.in_ok-keep.ensures.ledger)
    (subst (λ (batch : Accepted). HasRoom c.reserve.new.self batch.id) c.deref-3.ensures c.in_ok-reserve.ensures.room)

pub returns-clause-kept : goal.returns-clause-kept
returns-clause-kept g c = λ clean backed.
    let batch = arc_value c.in_ok-batch.batch in
    let storable = subst IsStorable (sym c.in_ok-batch.ensures.ok) c.in_ok-next_batch.ensures.storable in
    backs_more _ _ c.args.self.now.ledger.book _ _ batch _
    c.in_ok-reserve.ensures.book
    (c.deref-4.ensures.value ∙ (c.in_ok-bytes.ensures ∙ ap batch_bytes c.deref-2.ensures))
    (c.add.ensures.book
    ∙ (ap (λ (ledger : LedgerData). with_batch ledger.book batch) c.in_ok-keep.ensures.ledger
    ∙ ap (λ (book : Book). with_batch book batch) c.in_ok-reserve.ensures.book))
    storable
    (λ stored held next. c.in_ok-keep.ensures.kept clean stored held next)
    backed

pub returns-clause-safe : goal.returns-clause-safe
returns-clause-safe g c = λ faithful legal safe.
    let book = c.args.self.now.ledger.book in
    let batch = arc_value c.in_ok-batch.batch in
    safe_added g.K.Keeper _ _ book _ (returns-clause-kept g c) c.in_ok-keep.ensures.clean safe _ batch _
    c.in_ok-reserve.ensures.book
    (c.deref-4.ensures.value ∙ (c.in_ok-bytes.ensures ∙ ap batch_bytes c.deref-2.ensures))
    (c.add.ensures.book
    ∙ (ap (λ (ledger : LedgerData). with_batch ledger.book batch) c.in_ok-keep.ensures.ledger
    ∙ ap (λ (book : Book). with_batch book batch) c.in_ok-reserve.ensures.book))
    (subst IsStorable (sym c.in_ok-batch.ensures.ok) c.in_ok-next_batch.ensures.storable)
    (subst (λ (b : Accepted). IsLegal (with_batch book b)) (sym c.in_ok-batch.ensures.ok)
    c.in_ok-next_batch.ensures.legal)
    (c.in_ok-keep.ensures.settled faithful)

pub returns-in_err-keep-clause-safe : goal.returns-in_err-keep-clause-safe
returns-in_err-keep-clause-safe g c = λ faithful legal safe.
    let book = c.args.self.now.ledger.book in
    let batch = arc_value c.in_ok-batch.batch in
    subst (λ (ledger : LedgerData). IsSafe g.K.Keeper c.keep.new.self.keeper ledger.book)
    (sym c.in_err-keep.ensures.ledger)
    (safe_unless_added g.K.Keeper c.args.self.now.keeper c.keep.new.self.keeper book legal c.in_err-keep.ensures.clean
    c.in_err-keep.ensures.refused safe _ batch _
    c.in_ok-reserve.ensures.book
    (c.deref-4.ensures.value ∙ (c.in_ok-bytes.ensures ∙ ap batch_bytes c.deref-2.ensures))
    (subst IsStorable (sym c.in_ok-batch.ensures.ok) c.in_ok-next_batch.ensures.storable)
    (subst (λ (b : Accepted). IsLegal (with_batch book b)) (sym c.in_ok-batch.ensures.ok)
    c.in_ok-next_batch.ensures.legal)
    (c.in_err-keep.ensures.left faithful))
