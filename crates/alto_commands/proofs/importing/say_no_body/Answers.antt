use Rattle.alto_commands.specs.Bodies.{body_report}
use Rattle.alto_commands.proofs.ReportLemmas.{told_nothing, told_silent}
use Rattle.alto_commands.proofs.importing.say_no_body.Goals as goal

pub returns-in-ReadFault-clause-told : goal.returns-in-ReadFault-clause-told
returns-in-ReadFault-clause-told g c = rw c.in-ReadFault.is (told_silent 4 _)

pub returns-in-Memory-clause-told : goal.returns-in-Memory-clause-told
returns-in-Memory-clause-told g c = told_nothing (body_report c.args.fault) _

pub returns-in-TooLarge-clause-told : goal.returns-in-TooLarge-clause-told
returns-in-TooLarge-clause-told g c = rw c.in-TooLarge.is c.say.ensures.told
