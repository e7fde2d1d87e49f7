use Rattle.std.proofs.Common.{◌≡◌, ◌+◌, refl, sym, ap, ◌∙◌, length, map, subst, arith}
use Rattle.std.proofs.lemmas.List.{length-map, map-append}
use Rattle.std.specs.Arc.{arc_value}
use Rattle.std.specs.Prelude.{None}
use Rattle.alto_rows.specs.Accepted.{Accepted}
use Rattle.alto_rows.specs.Rows.{after}
use Rattle.alto_book.specs.Acceptance.{known, with_batch}
use Rattle.alto_book.specs.Book.{Book, all_kept, rows_of}
use Rattle.alto_book.specs.Legal.{IsLegal}
use Rattle.alto_versions.proofs.CourseLemmas.{rows_of-with_batch}
use Rattle.alto_desk.specs.Ledger.{HasPut, book_kept, receipt_of}
use Rattle.alto_desk.proofs.KeepsLemmas.{read_more}
use Rattle.alto_desk.proofs.RuleLemmas.{legal_stored}
use Rattle.alto_desk.proofs.opening.Opening.with.Goals as goal

pub invariant_of-result : goal.invariant_of-result
invariant_of-result g c =
    let batch = c.args.batch in
    let book : Book = book_kept (g.R.RowStore.rows (arc_value c.self.inside.base)) c.self.inside.receipts.items
    (map arc_value c.self.inside.batches.items) in
    let place = c.len-2.result + c.len-3.result in
    let put =
    subst (λ (one : Accepted). HasPut c.self.inside.places c.put.new.self one.id place) c.batch.view_is
    c.in_ok-put.ensures.put in
    let new =
    subst (λ (book : Book). known (all_kept book) batch.id ≡ None) (sym c.self.view_is) c.if-not-is_new.ensures in
    let receipts = length-map c.self.inside.receipts.items receipt_of in
    let batches = length-map c.self.inside.batches.items arc_value in
    let old : IsLegal c.args.self = subst IsLegal c.self.view_is c.self.invariant.legal in
    let legal = legal_stored c.args.self batch old c.requires.writes c.if-not-is_new.ensures c.if-not-is_later.ensures
    c.in_ok-rows.ensures.ok in
    let more = subst (λ (book : Book). IsLegal (with_batch book batch)) (sym c.self.view_is) legal in
    let writes = ap (λ (one : Accepted). one.writes) c.batch.view_is in
    read_more _ batch _ _ place _ _ _ _ _ c.self.invariant more
    (rw (c.in_ok-push.ensures.items, map-append, c.in_ok-new.ensures.ok) refl)
    (omega (arith, c.batch.inside.writes.ok, ap (λ (one : Accepted). length one.writes) c.batch.view_is))
    new
    (omega (
      arith,
      receipts,
      batches,
      c.len-2.ensures,
      c.len-3.ensures,
      c.self.inside.receipts.ok,
      c.self.inside.batches.ok,
    ))
    put
    (c.in_ok-course.ensures _ batch c.self.invariant.legal more
    (c.in_ok-rows.ensures.next
    ∙ (ap (λ (book : Book). after (rows_of book) batch.writes) (sym c.self.view_is) ∙ rows_of-with_batch book batch))
    (c.deref.ensures.value ∙ writes)
    c.self.invariant.follows)
