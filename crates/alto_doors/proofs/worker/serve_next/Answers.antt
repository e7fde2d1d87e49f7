use Rattle.std.proofs.Common.{sym}
use Rattle.alto_doors.proofs.WorkerLemmas.{served_at_end, served_none, served_one}
use Rattle.alto_doors.proofs.worker.serve_next.Goals as goal

pub returns-in_err-link-clause-served : goal.returns-in_err-link-clause-served
returns-in_err-link-clause-served g c = served_none _ _ _ _ _ _ (sym c.in_err-link.ensures.refused)

pub returns-in_default-clause-served : goal.returns-in_default-clause-served
returns-in_default-clause-served g c =
    served_at_end _ _ _ _ _ _ c.in_ok-link.field-0 c.in_default.is c.in_ok-link.ensures.given

pub returns-clause-served : goal.returns-clause-served
returns-clause-served g c =
    served_one _ _ _ _ _ _ _ _ c.in_ok-link.field-0 c.in-Some.link c.serve_link-served.result.link c.in-Some.peer
    c.serve_link-served.result.end c.in-Some.is c.in_ok-link.ensures.given c.give_back.ensures.left
    c.serve_link-served.ensures.served
