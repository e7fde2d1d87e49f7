-- The pieces tell, and whether there are more rows.
use Rattle.std.proofs.Common.{◌≡◌, ◌≢◌, length, map, sym, ap, ◌∙◌, subst, arith, List, ℕ}
use Rattle.std.proofs.lemmas.List.{length-map}
use Rattle.std.specs.Prelude.{vec_items}
use Rattle.base_code.specs.Faults.{IsBadPiece, IsBaseFault}
use Rattle.alto_desk.specs.Opening.{IsDamagedPiece}
use Rattle.alto_desk.proofs.PieceLemmas.{bad_piece, row_behind}
use Rattle.alto_desk.proofs.records.read_base.Goals as goal

pub returns-in-Ok-clause-err : goal.returns-in-Ok-clause-err
returns-in-Ok-clause-err c =
    let texts = map vec_items c.in_ok-pieces.pieces.items in
    let count = length-map c.in_ok-pieces.pieces.items vec_items in
    let other : length texts ≢ length c.args.rows.items =
    λ same. c.if-len-count.false (omega (
      arith,
      c.len.ensures,
      c.in_ok-pieces.pieces.ok,
      count,
      same,
      c.len-count.ensures,
      c.args.rows.ok,
    )) in
    let place : length texts ≡ c.len-else-len-count.result =
    omega (arith, count, c.in_ok-pieces.pieces.ok, c.len-else-len-count.ensures) in
    subst (IsDamagedPiece c.args.rows.items) place
    (row_behind texts c.args.rows.items c.in-Ok.base c.in_ok-pieces.ensures other c.in-Ok.ensures.ok.0
    (ap (map vec_items) (sym c.deref.ensures.value) ∙ c.in-Ok.ensures.ok.1))

pub returns-in-Err-BadPiece-clause-err : goal.returns-in-Err-BadPiece-clause-err
returns-in-Err-BadPiece-clause-err c =
    let bad = subst (IsBaseFault (map vec_items c.deref.result.now)) c.in-Err-BadPiece.field-0-is
    c.in-Err-BadPiece.ensures.err in
    bad_piece (map vec_items c.in_ok-pieces.pieces.items) c.args.rows.items c.in-Err-BadPiece.place
    c.in_ok-pieces.ensures
    (subst (λ (texts : List (List ℕ)). IsBadPiece texts c.in-Err-BadPiece.place)
    (ap (map vec_items) c.deref.ensures.value) bad)
