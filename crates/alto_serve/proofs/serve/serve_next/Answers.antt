use Rattle.alto_http.specs.Link.{followed_by}
use Rattle.alto_serve.proofs.StepLemmas.{clean_ends, respond_ends, respond_on, refuse_ends}
use Rattle.alto_serve.proofs.serve.serve_next.Goals as goal

pub returns-in-Ok-Some-clause-on : goal.returns-in-Ok-Some-clause-on
returns-in-Ok-Some-clause-on g c =
    let begins = rw c.in-Ok-Some.field-0-is at c.in-Ok-Some.ensures.request in
    λ none. respond_on _ _ _ _ _ _ _ _ c.read_request.ensures.out begins _ _ _ c.respond.ensures.left
    (c.respond.ensures.stays none) (c.respond.ensures.on none)

pub returns-in-Ok-Some-clause-ended : goal.returns-in-Ok-Some-clause-ended
returns-in-Ok-Some-clause-ended g c =
    let begins = rw c.in-Ok-Some.field-0-is at c.in-Ok-Some.ensures.request in
    respond_ends _ _ _ _ _ _ _ _ c.read_request.ensures.out begins _ _ c.respond.ensures.ended

pub returns-in-Err-clause-ended : goal.returns-in-Err-clause-ended
returns-in-Err-clause-ended g c =
    refuse_ends _ _ _ _ _ _ _ _ _ c.refuse.ensures.left c.read_request.ensures.out _ _ c.in-Err.ensures.refused
    (λ e. c.in-Err.ensures.cut (cc)) (λ e. c.in-Err.ensures.unfinished (cc)) c.refuse.ensures.written

pub returns-in-Ok-None-clause-ended : goal.returns-in-Ok-None-clause-ended
returns-in-Ok-None-clause-ended g c =
    clean_ends _ _ (followed_by c.args.intake.now (g.L.Link.left c.args.link.now)) _ _ _ c.read_request.ensures.out
    (c.in-Ok-None.ensures.none c.in-Ok-None.field-0-is)
