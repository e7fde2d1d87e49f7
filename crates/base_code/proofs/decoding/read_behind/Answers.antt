use Rattle.std.proofs.Common.{vec_items, subst, ◌∷◌, ◌++◌, []}
use Rattle.base_code.specs.Faults.{AreBeginning, beginning_pieces}
use Rattle.base_code.specs.Parts.{Denies}
use Rattle.base_code.proofs.BaseLemmas.{next_stops}
use Rattle.base_code.proofs.decoding.read_behind.Goals as goal

pub returns-in-Err-clause-err : goal.returns-in-Err-clause-err
returns-in-Err-clause-err c =
    let pieces = beginning_pieces c.loop-index.begun in
    rw c.at.ensures (next_stops vec_items (beginning_pieces c.args.begun) c.args.rest.now c.loop-index.index
    c.index-rest-index.result c.loop-index.begun c.in-Err.stop
    c.loop-index-test.true c.index-rest-index.is c.loop-index.invariant.begun c.requires.first
    c.loop-index.invariant.pieces
    (subst (λ piece. Denies (AreBeginning (pieces ++ (piece ∷ []))) c.in-Err.stop) c.deref.ensures.value
    c.in-Err.ensures.stops))
