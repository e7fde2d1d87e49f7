use Rattle.alto_commands.specs.Import.{form_report}
use Rattle.alto_commands.proofs.ReportLemmas.{told_nothing}
use Rattle.alto_commands.proofs.importing.say_malformed.Goals as goal

pub returns-in-Memory-clause-told : goal.returns-in-Memory-clause-told
returns-in-Memory-clause-told g c = told_nothing (form_report c.args.fault) _
