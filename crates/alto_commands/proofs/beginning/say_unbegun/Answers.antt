use Rattle.alto_commands.specs.Init.{init_report}
use Rattle.alto_commands.proofs.ReportLemmas.{told_nothing, told_silent}
use Rattle.alto_commands.proofs.beginning.say_unbegun.Goals as goal

pub returns-in-Keeper-clause-told : goal.returns-in-Keeper-clause-told
returns-in-Keeper-clause-told g c = rw c.in-Keeper.is (told_silent 3 _)

pub returns-in-Memory-clause-told : goal.returns-in-Memory-clause-told
returns-in-Memory-clause-told g c = told_nothing (init_report c.args.fault) _

pub returns-in-Already-clause-told : goal.returns-in-Already-clause-told
returns-in-Already-clause-told g c = rw c.in-Already.is c.say.ensures.told
