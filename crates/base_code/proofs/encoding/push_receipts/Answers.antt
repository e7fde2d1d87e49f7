use Rattle.std.specs.Prelude.{min}
use Rattle.std.proofs.Common.{length, ◌∷◌, ◌++◌, [], map, vec_items, ap, ◌∙◌}
use Rattle.std.proofs.lemmas.List.{map_push}
use Rattle.std.specs.Slice.Iter.{chunks_rest}
use Rattle.base_code.specs.Pieces.{receipts_piece}
use Rattle.base_code.proofs.PartLemmas.{pieces_on, pieces_start}
use Rattle.base_code.proofs.encoding.push_receipts.Goals as goal

pub loop-part-init : goal.loop-part-init
loop-part-init c =
    rw c.into_iter-part-iterator.ensures.into_iter_gives (record {
      size = c.chunks-part-items.ensures.size;
      has = rw c.chunks-part-items.ensures.rest
          (pieces_start receipts_piece c.args.receipts.now (map vec_items c.args.pieces.now.items));
    })

pub loop-part-preserved : goal.loop-part-preserved
loop-part-preserved c =
    let now = c.loop-part.pieces.items in
    let made = ap (map vec_items) c.in_ok-push.ensures.items ∙ map_push vec_items now c.in_ok-encode_receipts.field-0
    ∙ ap (λ p. map vec_items now ++ (p ∷ [])) c.in_ok-encode_receipts.ensures in
    record {
      size = c.in-Some.ensures.steps.0 ∙ c.loop-part.invariant.size;
      has = pieces_on receipts_piece c.args.receipts.now (chunks_rest c.loop-part.part-iterator) c.in-Some.part.now
          (chunks_rest c.next.new.self) (map vec_items c.args.pieces.now.items)
          (map vec_items now) (map vec_items c.push.new.self.items) c.loop-part.invariant.has
          c.in-Some.ensures.steps.1.0
          (c.in-Some.ensures.steps.1.1 ∙ ap (λ n. min n (length (chunks_rest c.loop-part.part-iterator)))
          c.loop-part.invariant.size) c.in-Some.ensures.steps.1.2 made;
    }
