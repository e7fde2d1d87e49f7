-- Each piece becomes a list, which has no more rows than its blocks may have.
use Rattle.std.proofs.Common.{◌≡◌, ◌*◌, ◌≤◌, ◌∷◌, ◌++◌, length, rules}
use Rattle.std.specs.List.{flat_map}
use Rattle.alto_rows.specs.Rows.{Rows}
use Rattle.row_chunks.specs.Blocks.{AllBegin, joined}
use Rattle.row_chunks.proofs.PieceLemmas.{all_push, begin_left, begin_right, list_more, small_list}
use Rattle.row_chunks.proofs.blocks.BlocksBlock.divided.Goals as goal

pub of_slots-requires : goal.of_slots-requires
of_slots-requires g c =
    let left = c.next.new.self.rest.items in
    let step : c.loop-piece.piece-iterator.rest.items ≡ c.in-Some.piece ∷ left = search rules in
    let begin : AllBegin (c.in-Some.piece.items ++ flat_map (λ piece. piece.items) left) =
    rw step at c.loop-piece.invariant.begin in
    begin_left c.in-Some.piece.items (flat_map (λ piece. piece.items) left) begin

pub loop-piece-preserved : goal.loop-piece-preserved
loop-piece-preserved g c =
    let l = c.loop-piece in
    let piece = c.in-Some.piece in
    let left = c.next.new.self.rest.items in
    let others = flat_map (λ piece. piece.items) left in
    let list = c.in_ok-of_slots.field-0 in
    let step : l.piece-iterator.rest.items ≡ piece ∷ left = search rules in
    let begin : AllBegin (piece.items ++ others) = rw step at l.invariant.begin in
    let whole : flat_map (λ list. list) l.lists.items ++ joined (piece.items ++ others) ≡ c.args.self =
    rw step at l.invariant.whole in
    record {
      whole = rw c.in_ok-push.ensures.items (list_more l.lists.items list piece.items others c.args.self
          c.in_ok-of_slots.ensures.whole whole);
      small = rw c.in_ok-push.ensures.items (all_push (λ (list : Rows). length list ≤ 16 * g.B.Block.most) l.lists.items
          list l.invariant.small (small_list (length piece.items) (length list) g.B.Block.most (search rules)
          c.in_ok-of_slots.ensures.small));
      begin = begin_right piece.items others begin;
      within = search rules;
    }
