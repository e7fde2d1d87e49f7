-- One more piece stands before the others.
use Rattle.std.proofs.Common.{rules, pos, ◌-ℤ◌, w64, map, take, vec_items, ap, ◌∙◌, ◌≡◌, ◌+◌, [], ◌∷◌, ◌++◌}
use Rattle.std.proofs.lemmas.List.{length-map, map_more}
use Rattle.std.proofs.lemmas.Int.{to_z-of_z}
use Rattle.keeper_sqlite.proofs.AddingLemmas.{added_more, survives_more}
use Rattle.keeper_sqlite.proofs.base.add_pieces.Goals as goal

grows : (g : _) (c : goal.In_ok-put g) → map vec_items (take (c.loop-index.index + 1) c.args.pieces.now)
    ≡ map vec_items (take c.loop-index.index c.args.pieces.now) ++ c.deref.result.now ∷ []
grows g c =
    map_more vec_items c.args.pieces.now c.loop-index.index c.index-pieces-index.result (search rules)
    ∙ ap (λ b. map vec_items (take c.loop-index.index c.args.pieces.now) ++ b ∷ []) (search rules)

pub loop-index-preserved : goal.loop-index-preserved
loop-index-preserved g c =
    let old = c.args.tx.now.conn.now in
    let mid = c.loop-index.tx.conn.now in
    let new = c.put.new.tx.conn.now in (
      c.put.ensures.same ∙ c.loop-index.invariant.0,
      survives_more g.S.Store old mid new c.loop-index.invariant.1 c.put.ensures.survives,
      added_more g.S.Store old mid new (map vec_items
          (take c.loop-index.index c.args.pieces.now)) _ c.deref.result.now _ _
          (to_z-of_z w64 c.row_of.result (search rules) ∙ c.row_of.ensures
          ∙ ap (λ k. pos 0 -ℤ pos 1 -ℤ pos k) (rw length-map (search rules)))
          (grows g c) c.loop-index.invariant.2 c.put.ensures.survives c.in_ok-put.ensures.runs,
    )
