use Rattle.std.proofs.Common.{◌≡◌, [], length, sym, ap, ◌∙◌}
use Rattle.std.proofs.lemmas.Bool.{eqb-false}
use Rattle.std.proofs.lemmas.Result.{err_from_is_err_and}
use Rattle.batch_code.specs.Grammar.{Writes}
use Rattle.batch_code.specs.Spelling.{write_bytes}
use Rattle.batch_code.specs.Storable.{IsStored}
use Rattle.batch_code.proofs.WriteLemmas.{is_write}
use Rattle.base_code.proofs.PieceLemmas.{items_followed, items_headless, items_stop}
use Rattle.batch_code.proofs.OnceLemmas.{write_apart}
use Rattle.base_code.proofs.rows.read_puts.Goals as goal

pub returns-in_err-rest-clause-stops : goal.returns-in_err-rest-clause-stops
returns-in_err-rest-clause-stops c =
    let p = err_from_is_err_and c.from_residual.result c.from_residual.ensures.1 in
    rw (p.1, p.2) (items_headless 0x45 c.args.count write_bytes IsStored c.args.piece.now c.in_err-rest.field-0.0
    c.in_err-rest.ensures.stops)

pub returns-in_err-writes-clause-stops : goal.returns-in_err-writes-clause-stops
returns-in_err-writes-clause-stops c =
    let p = err_from_is_err_and c.from_residual-in_err-writes.result c.from_residual-in_err-writes.ensures.1 in
    rw (p.1, p.2) (items_stop 0x45 c.args.count write_bytes IsStored Writes c.args.piece.now c.in_ok-rest.rest.now
    c.in_err-writes.field-0.0 is_write c.in_ok-rest.ensures.ok
    c.in_err-writes.ensures.stops)

pub returns-then-not-is_empty-clause-stops : goal.returns-then-not-is_empty-clause-stops
returns-then-not-is_empty-clause-stops c =
    let more : c.in_ok-writes.rest.now ≡ []
    → ⊥ = λ nil. eqb-false (length c.in_ok-writes.rest.now) 0 (sym c.is_empty.ensures ∙ c.if-not-is_empty.true)
    (ap length nil) in
    items_followed 0x45 c.args.count write_bytes IsStored c.args.piece.now c.in_ok-rest.rest.now c.in_ok-writes.rest.now
    c.in_ok-writes.writes.items write_apart c.in_ok-rest.ensures.ok
    c.in_ok-writes.ensures.ok.0 c.in_ok-writes.ensures.ok.1 c.in_ok-writes.ensures.ok.2 more
