use Rattle.alto_commands.specs.Stores.{open_report}
use Rattle.alto_commands.proofs.ReportLemmas.{told_nothing, told_silent}
use Rattle.alto_commands.proofs.store.say_unopened.Goals as goal

pub returns-in-Keeper-clause-told : goal.returns-in-Keeper-clause-told
returns-in-Keeper-clause-told g c = rw c.in-Keeper.is (told_silent 3 _)

pub returns-in-Memory-clause-told : goal.returns-in-Memory-clause-told
returns-in-Memory-clause-told g c = told_nothing (open_report c.args.fault) _
