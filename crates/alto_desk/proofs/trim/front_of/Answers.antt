-- Each prefix of the batches makes a legal book, which the course follows.
use Rattle.std.proofs.Common.{map, [], refl, ap, subst, arith}
use Rattle.std.proofs.lemmas.List.{length-map, take_all}
use Rattle.std.proofs.lemmas.Result.{IfOk-weaker}
use Rattle.std.specs.Arc.{arc_value}
use Rattle.alto_book.proofs.StateLemmas.{good_rows}
use Rattle.alto_versions.specs.Course.{Follows}
use Rattle.alto_desk.specs.Ledger.{book_kept, receipt_of}
use Rattle.alto_desk.proofs.NextLemmas.{first_legal, goes_on}
use Rattle.alto_desk.proofs.trim.front_of.Goals as goal

pub loop-batch-init : goal.loop-batch-init
loop-batch-init g c =
    let receipts = c.args.receipts.now in
    c.in_ok-course.ensures (book_kept (g.R.RowStore.rows (arc_value c.args.base.now)) receipts [])
    refl (length-map receipts receipt_of) (ap g.R.RowStore.rows c.in_ok-try_clone.ensures)

pub course_with-requires-clause-room : goal.course_with-requires-clause-room
course_with-requires-clause-room g c =
    (goes_on arc_value (g.R.RowStore.rows (arc_value c.args.base.now)) c.args.receipts.now c.args.batches.now
    c.loop-batch.batch-index c.batch-item.result
    c.deref.result.now c.loop-batch.course c.requires c.loop-batch-test.true c.batch-item.is c.deref.ensures
    c.loop-batch.invariant).can.room

pub course_with-requires-clause-good : goal.course_with-requires-clause-good
course_with-requires-clause-good g c =
    (goes_on arc_value (g.R.RowStore.rows (arc_value c.args.base.now)) c.args.receipts.now c.args.batches.now
    c.loop-batch.batch-index c.batch-item.result
    c.deref.result.now c.loop-batch.course c.requires c.loop-batch-test.true c.batch-item.is c.deref.ensures
    c.loop-batch.invariant).can.good

pub loop-batch-preserved : goal.loop-batch-preserved
loop-batch-preserved g c =
    let on = goes_on arc_value (g.R.RowStore.rows (arc_value c.args.base.now)) c.args.receipts.now c.args.batches.now
    c.loop-batch.batch-index c.batch-item.result
    c.deref.result.now c.loop-batch.course c.requires c.loop-batch-test.true c.batch-item.is c.deref.ensures
    c.loop-batch.invariant in
    subst (Follows _) on.next (c.in_ok-course-2.ensures _ on.legal on.more c.loop-batch.invariant)

pub into_front-requires : goal.into_front-requires
into_front-requires g c =
    let legal = first_legal arc_value (g.R.RowStore.rows (arc_value c.args.base.now)) c.args.receipts.now
    c.args.batches.now c.loop-batch.batch-index c.requires in
    record { good = rw c.loop-batch.invariant.current (good_rows _ legal) }

pub returns : goal.returns
returns g c =
    let whole = take_all c.loop-batch.batch-index c.args.batches.now (omega arith) in
    let base = g.R.RowStore.rows (arc_value c.args.base.now) in
    let follows = subst (λ some. Follows c.loop-batch.course (book_kept base c.args.receipts.now (map arc_value some)))
    whole c.loop-batch.invariant in
    IfOk-weaker c.into_front.result _
    _ (λ front stands. stands (book_kept base c.args.receipts.now (map arc_value c.args.batches.now)) follows)
    c.into_front.ensures
