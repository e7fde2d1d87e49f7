-- A row more is a piece more, or its number isn't its place.
use Rattle.std.proofs.Common.{◌≡◌, length, map, pos, sym, ap, ◌∙◌, arith, List, ℕ, [], ◌∷◌, ◌++◌}
use Rattle.std.proofs.lemmas.List.{length-map, map-append, nil_from_length}
use Rattle.std.specs.Prelude.{vec_items}
use Rattle.alto_keeper.specs.Stored.{RowData, numbered}
use Rattle.alto_desk.proofs.PieceLemmas.{front_all, front_before, front_more}
use Rattle.alto_desk.proofs.records.pieces_of.Goals as goal

pub returns-then-not-is_at : goal.returns-then-not-is_at
returns-then-not-is_at c =
    let place : pos (length (map vec_items c.loop-row.pieces.items)) ≡ pos c.len-in-loop-row.result =
    ap pos (omega (
      arith,
      length-map c.loop-row.pieces.items vec_items,
      c.loop-row.pieces.ok,
      c.len-in-loop-row.ensures,
    )) in
    front_before (map vec_items c.loop-row.pieces.items) c.args.rows.items c.loop-row.row-iterator.rest.items
    c.next.new.self.rest.items c.in-Some.row
    c.loop-row.invariant c.in-Some.ensures.steps.0
    (λ own. c.if-not-is_at.ensures (own ∙ place))

pub loop-row-preserved : goal.loop-row-preserved
loop-row-preserved c =
    let texts = map vec_items c.loop-row.pieces.items in
    let place : pos (length (map vec_items c.loop-row.pieces.items)) ≡ pos c.len-in-loop-row.result =
    ap pos (omega (
      arith,
      length-map c.loop-row.pieces.items vec_items,
      c.loop-row.pieces.ok,
      c.len-in-loop-row.ensures,
    )) in
    let items = ap (map vec_items) c.in_ok-push.ensures.items
    ∙ map-append vec_items c.loop-row.pieces.items (c.row.inside.bytes ∷ []) in
    front_more texts c.args.rows.items c.loop-row.row-iterator.rest.items c.next.new.self.rest.items c.in-Some.row
    c.loop-row.invariant c.in-Some.ensures.steps.0
    (c.if-not-is_at.ensures ∙ sym place)
    ∙ ap (λ (all : List (List ℕ)). numbered 0 all ++ c.next.new.self.rest.items)
    (ap (λ (row : RowData). texts ++ row.bytes ∷ []) (sym c.row.view_is) ∙ sym items)

pub returns : goal.returns
returns c =
    front_all (map vec_items c.loop-row.pieces.items) c.args.rows.items c.loop-row.row-iterator.rest.items
    c.loop-row.invariant
    (nil_from_length c.loop-row.row-iterator.rest.items
    (omega (arith, c.loop-row.row-iterator.rest.ok, c.in-None.ensures.steps.0)))
