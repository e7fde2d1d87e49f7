use Rattle.std.proofs.lemmas.Result.{IfOk-weaker}
use Rattle.alto_answers.proofs.edges.numbered_edge.Goals as goal

pub returns-clause-answer : goal.returns-clause-answer
returns-clause-answer g c =
    IfOk-weaker c.edge_by.result _ _ (λ answer made book is. rw (c.in-Some.is, c.in-Some-j.is) (made book is))
    c.edge_by.ensures.answer
