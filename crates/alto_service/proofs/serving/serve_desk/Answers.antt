use Rattle.alto_service.proofs.KeptLemmas.{backs_itself}
use Rattle.alto_service.proofs.serving.serve_desk.Goals as goal

pub returns-in-Err-Failed-clause-kept : goal.returns-in-Err-Failed-clause-kept
returns-in-Err-Failed-clause-kept g c = λ clean.
    (rw c.into_keeper.ensures at clean, λ backed. rw c.into_keeper.ensures (backs_itself _ _ backed))

pub returns-in-Err-Memory-clause-kept : goal.returns-in-Err-Memory-clause-kept
returns-in-Err-Memory-clause-kept g c = λ clean.
    let same = c.into_keeper-in-Err-Memory.ensures in
    (rw same at clean, λ backed. rw same (backs_itself _ _ backed))
