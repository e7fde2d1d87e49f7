use Rattle.std.proofs.Common.{[], ◌∷◌, map, vec_items, ap, subst, ◌∙◌}
use Rattle.std.proofs.lemmas.List.{nil_from_length}
use Rattle.base_code.specs.Faults.{AreBeginning}
use Rattle.base_code.specs.Parts.{Denies}
use Rattle.base_code.proofs.BaseLemmas.{first_stops, none_is_base, none_pieces}
use Rattle.base_code.proofs.decoding.decode_base.Goals as goal

pub returns-in_default-clause-ok : goal.returns-in_default-clause-ok
returns-in_default-clause-ok c =
    rw (c.new.ensures.items, c.new-in_default.ensures.items)
    (none_is_base, ap (map vec_items) (nil_from_length c.args.pieces.now c.in_default.ensures.cases) ∙ none_pieces)

pub returns-in-Err-clause-err : goal.returns-in-Err-clause-err
returns-in-Err-clause-err c =
    rw (c.in-Some.ensures.cases.0, c.at.ensures)
    (first_stops (vec_items c.in-Some.first.now) (map vec_items c.in-Some.rest.now) c.in-Err.stop
    (subst (λ piece. Denies (AreBeginning (piece ∷ [])) c.in-Err.stop) c.deref.ensures.value c.in-Err.ensures.stops))
