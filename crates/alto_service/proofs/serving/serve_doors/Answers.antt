use Rattle.alto_service.proofs.KeptLemmas.{backs_grown}
use Rattle.alto_service.proofs.serving.serve_doors.Goals as goal

pub returns-clause-kept : goal.returns-clause-kept
returns-clause-kept g c = λ clean.
    let was = c.into_desk.ensures.backed (rw c.into_keeper.ensures at clean) in
    (was.0, λ backed. rw c.into_keeper.ensures (backs_grown _ _ _ c.into_desk.ensures.grown (was.1 backed)))
