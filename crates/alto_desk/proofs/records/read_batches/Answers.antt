use Rattle.std.proofs.Common.{◌+◌, ℕ, [], ◌∷◌, ap, refl, sym, ◌∙◌, arith, length-append}
use Rattle.std.proofs.lemmas.List.{take_all}
use Rattle.std.proofs.lemmas.List.Elements.{All-nil, All-push}
use Rattle.std.proofs.lemmas.Result.{err_from_is_err_and}
use Rattle.batch_code.specs.Storable.{IsStorable}
use Rattle.alto_desk.proofs.RecordLemmas.{damaged_behind, spelled_more}
use Rattle.alto_desk.proofs.records.read_batches.Goals as goal

pub loop-row-init : goal.loop-row-init
loop-row-init c = record {
  spelled = rw c.in_ok-batches.ensures.items refl;
  storable = rw c.in_ok-batches.ensures.items (All-nil IsStorable);
  count = rw c.in_ok-batches.ensures.items refl;
}

pub returns-in_err-read_batch-clause-err : goal.returns-in_err-read_batch-clause-err
returns-in_err-read_batch-clause-err c =
    let p = err_from_is_err_and c.from_residual-in_err-read_batch.result c.from_residual-in_err-read_batch.ensures.1 in
    let count = c.len.ensures in
    rw (p.1, p.2)
    (damaged_behind c.in_err-read_batch.field-0.0 c.args.b c.args.rows.now c.loop-row.row-index c.row-item.result
    c.loop-row.batches.items
    (c.args.b + c.len.result + 1) c.loop-row-test.true c.row-item.is c.loop-row.invariant.spelled
    c.loop-row.invariant.storable
    (omega (arith, c.loop-row.batches.ok, count)) c.in_err-read_batch.ensures.err)

pub loop-row-preserved : goal.loop-row-preserved
loop-row-preserved c = record {
  spelled = rw c.in_ok-push.ensures.items
      (spelled_more c.args.b c.args.rows.now c.loop-row.row-index c.row-item.result c.loop-row.batches.items
      c.in_ok-read_batch.field-0
      (c.args.b + c.len.result + 1) c.loop-row-test.true c.row-item.is c.loop-row.invariant.spelled
      (omega (arith, c.loop-row.batches.ok, c.len.ensures)) c.in_ok-read_batch.ensures.ok.1);
  storable = rw c.in_ok-push.ensures.items
      (All-push IsStorable c.loop-row.batches.items _ c.loop-row.invariant.storable c.in_ok-read_batch.ensures.ok.0);
  count = rw (c.in_ok-push.ensures.items, length-append c.loop-row.batches.items (c.in_ok-read_batch.field-0 ∷ []))
      (ap (λ (n : ℕ). n + 1) c.loop-row.invariant.count);
}

pub overflow_add-number : goal.overflow_add-number
overflow_add-number c = omega (
  arith,
  c.loop-row.invariant.count,
  c.requires,
  c.len.ensures,
  c.loop-row.batches.ok,
  c.loop-row-test.true,
)

pub overflow_add-number-in-loop-row : goal.overflow_add-number-in-loop-row
overflow_add-number-in-loop-row c =
    omega (arith, c.loop-row.invariant.count, c.requires, c.len.ensures, c.loop-row.batches.ok, c.loop-row-test.true)

pub returns-clause-spelled : goal.returns-clause-spelled
returns-clause-spelled c =
    sym (take_all c.loop-row.row-index c.args.rows.now (omega arith)) ∙ c.loop-row.invariant.spelled

pub returns-clause-storable : goal.returns-clause-storable
returns-clause-storable c = c.loop-row.invariant.storable
