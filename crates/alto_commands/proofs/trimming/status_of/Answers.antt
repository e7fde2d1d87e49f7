use Rattle.std.proofs.Common.{Err}
use Rattle.alto_commands.specs.Trim.{trim_report}
use Rattle.alto_commands.proofs.ReportLemmas.{told_nothing, told_silent}
use Rattle.alto_commands.proofs.trimming.status_of.Goals as goal

pub returns-in-Keeper-clause-told : goal.returns-in-Keeper-clause-told
returns-in-Keeper-clause-told c = λ out. rw c.in-Keeper.is (told_silent 3 out)

pub returns-in-Memory-clause-told : goal.returns-in-Memory-clause-told
returns-in-Memory-clause-told c = λ out. told_nothing (trim_report (Err c.args.fault)) out
