use Rattle.alto_commands.proofs.ReportLemmas.{told_nothing}
use Rattle.alto_commands.proofs.saying.say_made.Goals as goal

pub returns-in-Err-clause-told : goal.returns-in-Err-clause-told
returns-in-Err-clause-told g c = λ made same. told_nothing (record { status = c.args.status; text = made }) _
