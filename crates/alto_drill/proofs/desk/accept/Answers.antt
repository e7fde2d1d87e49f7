use Rattle.std.proofs.Common.{sym, ◌∙◌}
use Rattle.std.proofs.lemmas.Result.{IfOk-weaker}
use Rattle.alto_book.proofs.AcceptanceLemmas.{refused_leaves}
use Rattle.alto_drill.proofs.desk.accept.Goals as goal

pub edit-requires : goal.edit-requires
edit-requires g c = c.requires

pub returns-in-Ok : goal.returns-in-Ok
returns-in-Ok g c = c.in-Ok.ensures.accepted

pub returns-in-Err : goal.returns-in-Err
returns-in-Err g c =
    IfOk-weaker c.refused.result _ _
    (λ done others. c.in-Err.ensures.unchanged
    ∙ sym (refused_leaves c.args.desk.now.ledger.book c.args.command 0 c.in-Err.fault
    (c.in-Err.ensures.err others.0 others.1)))
    c.refused.ensures
