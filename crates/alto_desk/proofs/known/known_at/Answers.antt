-- A receipt is at the place, or a batch behind the receipts, or nothing.
use Rattle.std.proofs.Common.{ℕ, List, map, ◌-◌, length, ap, sym, ◌∙◌, arith}
use Rattle.std.specs.Prelude.{Some}
use Rattle.std.specs.Arc.{arc_value}
use Rattle.alto_rows.specs.Accepted.{Accepted}
use Rattle.alto_book.specs.Book.{kept_of}
use Rattle.base_code.specs.Bases.{KeptData}
use Rattle.alto_desk.specs.Ledger.{receipt_of}
use Rattle.alto_desk.proofs.PlaceLemmas.{in_batches, in_receipts, other_if, past_batches, seen_if}
use Rattle.alto_desk.proofs.known.known_at.Goals as goal

pub returns-in-Some-clause-kept : goal.returns-in-Some-clause-kept
returns-in-Some-clause-kept c =
    let lookup = c.in-Some.ensures.lookup in
    let inside = c.kept.inside in
    seen_if (λ found. record { id = c.args.id.now; digest = found.digest.now; moment = found.moment })
    c.eq.result _ c.then_some.result _
    (record { id = inside.id; digest = inside.digest; moment = inside.moment }) c.args.id.now
    c.then_some.ensures c.eq.ensures
    (in_receipts c.args.receipts.now (map arc_value c.args.batches.now) c.args.place c.in-Some.kept.now
    lookup.3.0 lookup.1
    ∙ ap (λ (kept : KeptData). Some (receipt_of kept)) (sym c.kept.view_is))
    (λ same. ap (λ (id : List ℕ). record { id = id; digest = inside.digest; moment = inside.moment }) same)

pub returns-in-Some-clause-other : goal.returns-in-Some-clause-other
returns-in-Some-clause-other c =
    let lookup = c.in-Some.ensures.lookup in
    let inside = c.kept.inside in
    other_if c.eq.result _ c.then_some.result _
    (record { id = inside.id; digest = inside.digest; moment = inside.moment }) c.args.id.now
    c.then_some.ensures c.eq.ensures
    (in_receipts c.args.receipts.now (map arc_value c.args.batches.now) c.args.place c.in-Some.kept.now
    lookup.3.0 lookup.1
    ∙ ap (λ (kept : KeptData). Some (receipt_of kept)) (sym c.kept.view_is))

pub returns-in_err-get-clause-other : goal.returns-in_err-get-clause-other
returns-in_err-get-clause-other c =
    rw (
      c.from_residual.ensures,
      past_batches arc_value c.args.receipts.now c.args.batches.now c.args.place
          (omega (arith, c.in_default.ensures.lookup.3, c.in_err-get.ensures.lookup.3)),
    ) tt

pub returns-clause-kept : goal.returns-clause-kept
returns-clause-kept c =
    let lookup = c.in_ok-get.ensures.lookup in
    let inside = c.batch.inside in
    let behind = c.args.place - length c.args.receipts.now in
    seen_if (λ found. record { id = c.args.id.now; digest = found.digest.now; moment = found.moment })
    c.eq-2.result _ c.then_some-2.result _
    (record { id = inside.id; digest = inside.digest; moment = inside.moment }) c.args.id.now
    c.then_some-2.ensures c.eq-2.ensures
    (in_batches arc_value c.args.receipts.now c.args.batches.now behind c.args.place _
    (omega (arith, c.in_default.ensures.lookup.3)) lookup.3.0 lookup.1
    ∙ ap (λ (batch : Accepted). Some (kept_of batch)) (sym (c.batch.view_is ∙ c.deref-batch.ensures)))
    (λ same. ap (λ (id : List ℕ). record { id = id; digest = inside.digest; moment = inside.moment }) same)

pub returns-clause-other : goal.returns-clause-other
returns-clause-other c =
    let lookup = c.in_ok-get.ensures.lookup in
    let inside = c.batch.inside in
    let behind = c.args.place - length c.args.receipts.now in
    other_if c.eq-2.result _ c.then_some-2.result _
    (record { id = inside.id; digest = inside.digest; moment = inside.moment }) c.args.id.now
    c.then_some-2.ensures c.eq-2.ensures
    (in_batches arc_value c.args.receipts.now c.args.batches.now behind c.args.place _
    (omega (arith, c.in_default.ensures.lookup.3)) lookup.3.0 lookup.1
    ∙ ap (λ (batch : Accepted). Some (kept_of batch)) (sym (c.batch.view_is ∙ c.deref-batch.ensures)))
