use Rattle.alto_serve.proofs.turns.edit.Goals as goal

pub returns-in_default-clause-decided : goal.returns-in_default-clause-decided
returns-in_default-clause-decided g c =
    (c.now.result, c.now.ensures, c.in-Err.ensures.answered (λ e. c.in_default.not-Memory (cc)))
