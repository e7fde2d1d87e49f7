-- The next base is that of the book whose base has moved on, and the batches that are left are its batches.
use Rattle.std.proofs.Common.{◌+◌, ◌≤◌, List, ◌++◌, length, map, ap, sym, ◌∙◌, subst}
use Rattle.std.specs.Prelude.{drop, take}
use Rattle.std.specs.Arc.{arc_value}
use Rattle.alto_rows.specs.Rows.{after}
use Rattle.alto_book.specs.Book.{kept_of, trimmed, writes_in}
use Rattle.alto_book.specs.Legal.{IsLegal}
use Rattle.base_code.specs.Bases.{BaseData, KeptData}
use Rattle.base_code.specs.Pieces.{base_pieces}
use Rattle.alto_desk.specs.Ledger.{LedgerData, book_kept, receipt_of}
use Rattle.alto_desk.specs.Trim.{base_of}
use Rattle.alto_desk.proofs.TrimLemmas.{moves_on}
use Rattle.alto_desk.proofs.ledger.Ledger.trimmed.Goals as goal

pub encode_base-requires-clause-some : goal.encode_base-requires-clause-some
encode_base-requires-clause-some g c =
    (moves_on arc_value (g.R.RowStore.rows (arc_value c.self.inside.base)) c.self.inside.receipts.items
    c.self.inside.batches.items
    c.split_at.result.0.now c.split_at.result.1.now c.args.count (g.R.RowStore.rows (arc_value c.in_ok-rows.rows))
    c.in_ok-rows.base
    c.self.invariant.legal
    (subst (λ (ledger : LedgerData). 1 ≤ length ledger.book.receipts + c.args.count) (sym c.self.view_is)
    c.requires.some)
    (subst (λ (ledger : LedgerData). c.args.count ≤ length ledger.book.batches) (sym c.self.view_is) c.requires.within)
    (c.split_at.ensures.front ∙ ap (take c.args.count) c.deref.ensures.value)
    (c.split_at.ensures.back ∙ ap (drop c.args.count) c.deref.ensures.value)
    (c.in_ok-rows.ensures.rows ∙ ap (λ base. after (g.R.RowStore.rows base)
    (writes_in (map arc_value c.split_at.result.0.now))) c.deref-2.ensures)
    c.in_ok-rows.ensures.stored
    (c.in_ok-rows.ensures.receipts
    ∙ ap (λ (all : List KeptData). map receipt_of all ++ map kept_of (map arc_value c.split_at.result.0.now))
    c.deref-3.ensures.value)
    c.in_ok-rows.ensures.number c.in_ok-rows.ensures.few).can.some

pub encode_base-requires-clause-receipts : goal.encode_base-requires-clause-receipts
encode_base-requires-clause-receipts g c =
    (moves_on arc_value (g.R.RowStore.rows (arc_value c.self.inside.base)) c.self.inside.receipts.items
    c.self.inside.batches.items
    c.split_at.result.0.now c.split_at.result.1.now c.args.count (g.R.RowStore.rows (arc_value c.in_ok-rows.rows))
    c.in_ok-rows.base
    c.self.invariant.legal
    (subst (λ (ledger : LedgerData). 1 ≤ length ledger.book.receipts + c.args.count) (sym c.self.view_is)
    c.requires.some)
    (subst (λ (ledger : LedgerData). c.args.count ≤ length ledger.book.batches) (sym c.self.view_is) c.requires.within)
    (c.split_at.ensures.front ∙ ap (take c.args.count) c.deref.ensures.value)
    (c.split_at.ensures.back ∙ ap (drop c.args.count) c.deref.ensures.value)
    (c.in_ok-rows.ensures.rows ∙ ap (λ base. after (g.R.RowStore.rows base)
    (writes_in (map arc_value c.split_at.result.0.now))) c.deref-2.ensures)
    c.in_ok-rows.ensures.stored
    (c.in_ok-rows.ensures.receipts
    ∙ ap (λ (all : List KeptData). map receipt_of all ++ map kept_of (map arc_value c.split_at.result.0.now))
    c.deref-3.ensures.value)
    c.in_ok-rows.ensures.number c.in_ok-rows.ensures.few).can.receipts

pub encode_base-requires-clause-few : goal.encode_base-requires-clause-few
encode_base-requires-clause-few g c =
    (moves_on arc_value (g.R.RowStore.rows (arc_value c.self.inside.base)) c.self.inside.receipts.items
    c.self.inside.batches.items
    c.split_at.result.0.now c.split_at.result.1.now c.args.count (g.R.RowStore.rows (arc_value c.in_ok-rows.rows))
    c.in_ok-rows.base
    c.self.invariant.legal
    (subst (λ (ledger : LedgerData). 1 ≤ length ledger.book.receipts + c.args.count) (sym c.self.view_is)
    c.requires.some)
    (subst (λ (ledger : LedgerData). c.args.count ≤ length ledger.book.batches) (sym c.self.view_is) c.requires.within)
    (c.split_at.ensures.front ∙ ap (take c.args.count) c.deref.ensures.value)
    (c.split_at.ensures.back ∙ ap (drop c.args.count) c.deref.ensures.value)
    (c.in_ok-rows.ensures.rows ∙ ap (λ base. after (g.R.RowStore.rows base)
    (writes_in (map arc_value c.split_at.result.0.now))) c.deref-2.ensures)
    c.in_ok-rows.ensures.stored
    (c.in_ok-rows.ensures.receipts
    ∙ ap (λ (all : List KeptData). map receipt_of all ++ map kept_of (map arc_value c.split_at.result.0.now))
    c.deref-3.ensures.value)
    c.in_ok-rows.ensures.number c.in_ok-rows.ensures.few).can.few

pub encode_base-requires-clause-sorted : goal.encode_base-requires-clause-sorted
encode_base-requires-clause-sorted g c =
    (moves_on arc_value (g.R.RowStore.rows (arc_value c.self.inside.base)) c.self.inside.receipts.items
    c.self.inside.batches.items
    c.split_at.result.0.now c.split_at.result.1.now c.args.count (g.R.RowStore.rows (arc_value c.in_ok-rows.rows))
    c.in_ok-rows.base
    c.self.invariant.legal
    (subst (λ (ledger : LedgerData). 1 ≤ length ledger.book.receipts + c.args.count) (sym c.self.view_is)
    c.requires.some)
    (subst (λ (ledger : LedgerData). c.args.count ≤ length ledger.book.batches) (sym c.self.view_is) c.requires.within)
    (c.split_at.ensures.front ∙ ap (take c.args.count) c.deref.ensures.value)
    (c.split_at.ensures.back ∙ ap (drop c.args.count) c.deref.ensures.value)
    (c.in_ok-rows.ensures.rows ∙ ap (λ base. after (g.R.RowStore.rows base)
    (writes_in (map arc_value c.split_at.result.0.now))) c.deref-2.ensures)
    c.in_ok-rows.ensures.stored
    (c.in_ok-rows.ensures.receipts
    ∙ ap (λ (all : List KeptData). map receipt_of all ++ map kept_of (map arc_value c.split_at.result.0.now))
    c.deref-3.ensures.value)
    c.in_ok-rows.ensures.number c.in_ok-rows.ensures.few).can.rows.sorted

pub encode_base-requires-clause-stored : goal.encode_base-requires-clause-stored
encode_base-requires-clause-stored g c =
    (moves_on arc_value (g.R.RowStore.rows (arc_value c.self.inside.base)) c.self.inside.receipts.items
    c.self.inside.batches.items
    c.split_at.result.0.now c.split_at.result.1.now c.args.count (g.R.RowStore.rows (arc_value c.in_ok-rows.rows))
    c.in_ok-rows.base
    c.self.invariant.legal
    (subst (λ (ledger : LedgerData). 1 ≤ length ledger.book.receipts + c.args.count) (sym c.self.view_is)
    c.requires.some)
    (subst (λ (ledger : LedgerData). c.args.count ≤ length ledger.book.batches) (sym c.self.view_is) c.requires.within)
    (c.split_at.ensures.front ∙ ap (take c.args.count) c.deref.ensures.value)
    (c.split_at.ensures.back ∙ ap (drop c.args.count) c.deref.ensures.value)
    (c.in_ok-rows.ensures.rows ∙ ap (λ base. after (g.R.RowStore.rows base)
    (writes_in (map arc_value c.split_at.result.0.now))) c.deref-2.ensures)
    c.in_ok-rows.ensures.stored
    (c.in_ok-rows.ensures.receipts
    ∙ ap (λ (all : List KeptData). map receipt_of all ++ map kept_of (map arc_value c.split_at.result.0.now))
    c.deref-3.ensures.value)
    c.in_ok-rows.ensures.number c.in_ok-rows.ensures.few).can.rows.each

pub ledger_of-requires : goal.ledger_of-requires
ledger_of-requires g c =
    subst
    (λ (base : BaseData). IsLegal (book_kept (g.R.RowStore.rows (arc_value c.in_ok-rows.rows)) base.receipts
    (map arc_value c.split_at.result.1.now)))
    (sym c.base.view_is)
    (moves_on arc_value (g.R.RowStore.rows (arc_value c.self.inside.base)) c.self.inside.receipts.items
    c.self.inside.batches.items
    c.split_at.result.0.now c.split_at.result.1.now c.args.count (g.R.RowStore.rows (arc_value c.in_ok-rows.rows))
    c.in_ok-rows.base
    c.self.invariant.legal
    (subst (λ (ledger : LedgerData). 1 ≤ length ledger.book.receipts + c.args.count) (sym c.self.view_is)
    c.requires.some)
    (subst (λ (ledger : LedgerData). c.args.count ≤ length ledger.book.batches) (sym c.self.view_is) c.requires.within)
    (c.split_at.ensures.front ∙ ap (take c.args.count) c.deref.ensures.value)
    (c.split_at.ensures.back ∙ ap (drop c.args.count) c.deref.ensures.value)
    (c.in_ok-rows.ensures.rows ∙ ap (λ base. after (g.R.RowStore.rows base)
    (writes_in (map arc_value c.split_at.result.0.now))) c.deref-2.ensures)
    c.in_ok-rows.ensures.stored
    (c.in_ok-rows.ensures.receipts
    ∙ ap (λ (all : List KeptData). map receipt_of all ++ map kept_of (map arc_value c.split_at.result.0.now))
    c.deref-3.ensures.value)
    c.in_ok-rows.ensures.number c.in_ok-rows.ensures.few).legal

pub returns-clause-book : goal.returns-clause-book
returns-clause-book g c =
    c.in_ok-ledger_of.ensures
    ∙ (ap (λ (base : BaseData). book_kept (g.R.RowStore.rows (arc_value c.in_ok-rows.rows)) base.receipts
    (map arc_value c.split_at.result.1.now)) c.base.view_is
    ∙ ((moves_on arc_value (g.R.RowStore.rows (arc_value c.self.inside.base)) c.self.inside.receipts.items
    c.self.inside.batches.items
    c.split_at.result.0.now c.split_at.result.1.now c.args.count (g.R.RowStore.rows (arc_value c.in_ok-rows.rows))
    c.in_ok-rows.base
    c.self.invariant.legal
    (subst (λ (ledger : LedgerData). 1 ≤ length ledger.book.receipts + c.args.count) (sym c.self.view_is)
    c.requires.some)
    (subst (λ (ledger : LedgerData). c.args.count ≤ length ledger.book.batches) (sym c.self.view_is) c.requires.within)
    (c.split_at.ensures.front ∙ ap (take c.args.count) c.deref.ensures.value)
    (c.split_at.ensures.back ∙ ap (drop c.args.count) c.deref.ensures.value)
    (c.in_ok-rows.ensures.rows ∙ ap (λ base. after (g.R.RowStore.rows base)
    (writes_in (map arc_value c.split_at.result.0.now))) c.deref-2.ensures)
    c.in_ok-rows.ensures.stored
    (c.in_ok-rows.ensures.receipts
    ∙ ap (λ (all : List KeptData). map receipt_of all ++ map kept_of (map arc_value c.split_at.result.0.now))
    c.deref-3.ensures.value)
    c.in_ok-rows.ensures.number c.in_ok-rows.ensures.few).same
    ∙ ap (λ (ledger : LedgerData). trimmed ledger.book c.args.count) c.self.view_is))

pub returns-clause-pieces : goal.returns-clause-pieces
returns-clause-pieces g c =
    c.in_ok-pieces.ensures
    ∙ ap base_pieces ((moves_on arc_value (g.R.RowStore.rows (arc_value c.self.inside.base))
    c.self.inside.receipts.items c.self.inside.batches.items
    c.split_at.result.0.now c.split_at.result.1.now c.args.count (g.R.RowStore.rows (arc_value c.in_ok-rows.rows))
    c.in_ok-rows.base
    c.self.invariant.legal
    (subst (λ (ledger : LedgerData). 1 ≤ length ledger.book.receipts + c.args.count) (sym c.self.view_is)
    c.requires.some)
    (subst (λ (ledger : LedgerData). c.args.count ≤ length ledger.book.batches) (sym c.self.view_is) c.requires.within)
    (c.split_at.ensures.front ∙ ap (take c.args.count) c.deref.ensures.value)
    (c.split_at.ensures.back ∙ ap (drop c.args.count) c.deref.ensures.value)
    (c.in_ok-rows.ensures.rows ∙ ap (λ base. after (g.R.RowStore.rows base)
    (writes_in (map arc_value c.split_at.result.0.now))) c.deref-2.ensures)
    c.in_ok-rows.ensures.stored
    (c.in_ok-rows.ensures.receipts
    ∙ ap (λ (all : List KeptData). map receipt_of all ++ map kept_of (map arc_value c.split_at.result.0.now))
    c.deref-3.ensures.value)
    c.in_ok-rows.ensures.number c.in_ok-rows.ensures.few).stored
    ∙ ap (λ (ledger : LedgerData). base_of (trimmed ledger.book c.args.count)) c.self.view_is)
