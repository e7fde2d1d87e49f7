use Rattle.std.proofs.lemmas.Result.{IfOk-weaker, on_err_weaker}
use Rattle.alto_hub.proofs.EventLemmas.{seat_looks, seat_lost_look}
use Rattle.alto_hub.proofs.visitor.Visitor.look.Goals as goal

pub returns-clause-looked : goal.returns-clause-looked
returns-clause-looked g c =
    rw (← c.self.view_is) (IfOk-weaker c.look.result _ _ (λ front sees. seat_looks _ _ _ _ _ _ sees)
    c.look.ensures.looked)

pub returns-clause-lost : goal.returns-clause-lost
returns-clause-lost g c =
    rw (← c.self.view_is) (on_err_weaker c.look.result (λ came. seat_lost_look _ _ _ _ _ _ came) c.look.ensures.lost)
