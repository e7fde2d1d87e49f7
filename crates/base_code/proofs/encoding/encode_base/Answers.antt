use Rattle.std.proofs.Common.{◌≡◌, ◌≤◌, [], ◌∷◌, ◌++◌, length, map, vec_items, ap, sym, subst, ◌∙◌, arith}
use Rattle.std.proofs.lemmas.List.{map_push}
use Rattle.base_code.specs.Bases.{BaseData}
use Rattle.base_code.specs.Pieces.{base_pieces, first_piece, parts, receipts_piece, rows_piece}
use Rattle.base_code.proofs.BaseLemmas.{joined_pieces}
use Rattle.base_code.proofs.encoding.encode_base.Goals as goal

pub returns : goal.returns
returns c =
    let inside = c.base.inside in
    let base : BaseData = record { b = inside.b; receipts = inside.receipts.items; rows = inside.rows.items } in
    let same : base ≡ c.args.base.now = c.base.view_is in
    let some : 1 ≤ base.b = subst (λ (of : BaseData). 1 ≤ of.b) (sym same) c.requires.some in
    let count : c.len.result ≡ length inside.rows.items = omega (arith, c.len.ensures, inside.rows.ok) in
    let none = c.new-pieces.result.items in
    let first = ap (map vec_items) c.in_ok-push.ensures.items ∙ map_push vec_items none c.in_ok-encode_first.field-0
    ∙ ap (λ p. map vec_items none ++ (p ∷ [])) (c.in_ok-encode_first.ensures ∙ ap (first_piece inside.b) count) in
    let receipts = c.in_ok-push_receipts.ensures
    ∙ ap (λ t. map vec_items c.push.new.self.items ++ map receipts_piece (parts t)) c.deref.ensures.value in
    let rows = c.in_ok-push_rows.ensures
    ∙ ap (λ t. map vec_items c.push_receipts.new.pieces.items ++ map rows_piece (parts t)) c.deref-2.ensures.value in
    joined_pieces base (map vec_items none) (map vec_items c.push.new.self.items)
    (map vec_items c.push_receipts.new.pieces.items) (map vec_items c.push_rows.new.pieces.items)
    some (ap (map vec_items) c.new-pieces.ensures.items) first receipts rows ∙ ap base_pieces same
