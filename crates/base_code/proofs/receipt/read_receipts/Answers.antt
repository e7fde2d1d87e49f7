use Rattle.std.proofs.Common.{◌≡◌, [], length, sym, ap, ◌∙◌}
use Rattle.std.proofs.lemmas.Bool.{eqb-false}
use Rattle.std.proofs.lemmas.Result.{err_from_is_err_and}
use Rattle.base_code.specs.Bases.{IsKept}
use Rattle.base_code.specs.Parts.{Receipts}
use Rattle.base_code.specs.Pieces.{kept_bytes}
use Rattle.base_code.proofs.PieceLemmas.{is_receipt, items_followed, items_headless, items_stop, kept_apart}
use Rattle.base_code.proofs.receipt.read_receipts.Goals as goal

pub returns-in_err-rest-clause-stops : goal.returns-in_err-rest-clause-stops
returns-in_err-rest-clause-stops c =
    let p = err_from_is_err_and c.from_residual.result c.from_residual.ensures.1 in
    rw (p.1, p.2) (items_headless 0x44 c.args.count kept_bytes IsKept c.args.piece.now c.in_err-rest.field-0.0
    c.in_err-rest.ensures.stops)

pub returns-in_err-receipts-clause-stops : goal.returns-in_err-receipts-clause-stops
returns-in_err-receipts-clause-stops c =
    let p = err_from_is_err_and c.from_residual-in_err-receipts.result c.from_residual-in_err-receipts.ensures.1 in
    rw (p.1, p.2) (items_stop 0x44 c.args.count kept_bytes IsKept Receipts c.args.piece.now c.in_ok-rest.rest.now
    c.in_err-receipts.field-0.0 is_receipt c.in_ok-rest.ensures.ok
    c.in_err-receipts.ensures.stops)

pub returns-then-not-is_empty-clause-stops : goal.returns-then-not-is_empty-clause-stops
returns-then-not-is_empty-clause-stops c =
    let more : c.in_ok-receipts.rest.now ≡ []
    → ⊥ = λ nil. eqb-false (length c.in_ok-receipts.rest.now) 0 (sym c.is_empty.ensures ∙ c.if-not-is_empty.true)
    (ap length nil) in
    items_followed 0x44 c.args.count kept_bytes IsKept c.args.piece.now c.in_ok-rest.rest.now c.in_ok-receipts.rest.now
    c.in_ok-receipts.receipts.items kept_apart c.in_ok-rest.ensures.ok
    c.in_ok-receipts.ensures.ok.0 c.in_ok-receipts.ensures.ok.1 c.in_ok-receipts.ensures.ok.2 more
