use Rattle.alto_answers.proofs.lookup.lookup_reply.Goals as goal

pub returns-in_default-clause-reply : goal.returns-in_default-clause-reply
returns-in_default-clause-reply c = rw c.in_default.is c.not_found.ensures.reply

pub returns-in_default-addr-clause-reply : goal.returns-in_default-addr-clause-reply
returns-in_default-addr-clause-reply c =
    rw (c.in-Some.is, c.in_default-addr.is) c.not_found-in_default-addr.ensures.reply
