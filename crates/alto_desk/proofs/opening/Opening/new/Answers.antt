-- The rows of a new book are good, and the base's stand behind them; the base that keeps its rule begins a book.
use Rattle.std.proofs.Common.{◌≡◌, ◌<◌, ap, map, sym, ◌∙◌, ◌++◌, refl, subst, arith, length, []}
use Rattle.std.specs.Prelude.{◌^◌}
use Rattle.std.proofs.lemmas.List.{length-map}
use Rattle.std.specs.Arc.{arc_value}
use Rattle.std.specs.List.{IsDistinct}
use Rattle.alto_rows.specs.Order.{same_name}
use Rattle.alto_rows.specs.Rows.{Rows}
use Rattle.alto_book.proofs.OpeningLemmas.{good_opening}
use Rattle.base_check.specs.Rules.{KeepsRule}
use Rattle.base_code.specs.Bases.{IsBase}
use Rattle.alto_desk.specs.Ledger.{book_kept, receipt_of}
use Rattle.alto_desk.proofs.KeepsLemmas.{all_ids, read_base, sorted_behind}
use Rattle.alto_desk.proofs.opening.Opening.new.Goals as goal

pub check_base-requires-clause-good : goal.check_base-requires-clause-good
check_base-requires-clause-good g c =
    rw c.in_ok-first.ensures (good_opening c.args.epoch.now c.args.window c.requires.head.is_epoch c.requires.head.least
    c.requires.head.most)

pub check_base-requires-clause-sorted : goal.check_base-requires-clause-sorted
check_base-requires-clause-sorted g c =
    let base = subst IsBase (sym c.base.view_is) c.requires.base in
    rw c.in_ok-first.ensures (sorted_behind c.args.epoch.now c.args.window c.base.inside.rows.items base.rows)

pub of-requires : goal.of-requires
of-requires g c =
    let first = g.R.RowStore.rows c.in_ok-first.first ++ c.base.inside.rows.items in
    let keeps = subst (KeepsRule first) c.deref.ensures.value c.in_ok-check_base.ensures.ok in
    rw (c.deref-2.ensures.value, c.deref-3.ensures.value, c.new-batches.ensures.items)
    (subst (IsDistinct same_name) (sym (all_ids first c.base.inside.receipts.items)) keeps.kept.ids)

pub invariant_of-result : goal.invariant_of-result
invariant_of-result g c =
    let receipts = c.base.inside.receipts.items in
    let whole = ap g.R.RowStore.rows c.in_ok-whole.ensures.ok ∙ c.in_ok-check_base.ensures.whole in
    let told = subst (KeepsRule (g.R.RowStore.rows c.in_ok-first.first ++ c.base.inside.rows.items))
    c.deref.ensures.value c.in_ok-check_base.ensures.ok in
    let keeps = subst (λ (rows : Rows). KeepsRule rows receipts) (sym whole) told in
    let small : length receipts < 2 ^ 62 =
    omega (arith, c.if-len-ge-MOST_RECEIPTS.false, c.len.ensures, c.base.inside.receipts.ok) in
    let placed = rw (c.deref-2.ensures.value, c.deref-3.ensures.value) at c.in_ok-places.ensures in
    let number : length (map receipt_of receipts) ≡ c.len-2.result =
    omega (arith, length-map receipts receipt_of, c.len-2.ensures, c.base.inside.receipts.ok) in
    let rows = g.R.RowStore.rows (arc_value c.in_ok-whole.whole) in
    read_base rows receipts _ c.in_ok-places.places c.in_ok-course.course keeps small
    (ap (map arc_value) c.new-batches.ensures.items) placed
    (c.in_ok-course.ensures (book_kept rows receipts []) refl number (ap g.R.RowStore.rows c.in_ok-try_clone.ensures))
