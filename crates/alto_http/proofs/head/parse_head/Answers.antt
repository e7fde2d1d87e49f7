use Rattle.alto_http.proofs.head.parse_head.Goals as goal

pub returns-in_default-2-clause-none : goal.returns-in_default-2-clause-none
returns-in_default-2-clause-none c h rest reads few =
    rw c.in_default.is at (c.parse_request.ensures.found h rest reads few)
