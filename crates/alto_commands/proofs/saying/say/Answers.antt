use Rattle.alto_commands.proofs.ReportLemmas.{told_part, told_whole}
use Rattle.alto_commands.proofs.saying.say.Goals as goal

pub returns-in-Ok-clause-told : goal.returns-in-Ok-clause-told
returns-in-Ok-clause-told g c =
    told_whole (record { status = c.args.status; text = c.args.text.now }) _ _ c.in-Ok.ensures.ok

pub returns-in-Err-clause-told : goal.returns-in-Err-clause-told
returns-in-Err-clause-told g c =
    let cut = c.in-Err.ensures.err in
    told_part (record { status = c.args.status; text = c.args.text.now }) _ _ cut.0 cut.1 cut.2
