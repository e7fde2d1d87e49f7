use Rattle.std.proofs.Common.{◌∙◌}
use Rattle.alto_desk.specs.declared.fault.InitFault.TheVariants as fault
use Rattle.alto_commands.specs.Init.{init_report}
use Rattle.alto_commands.proofs.InitLemmas.{begins_new, begins_none}
use Rattle.alto_commands.proofs.ReportLemmas.{no_fault, told_made, told_nothing}
use Rattle.alto_commands.proofs.beginning.init.Goals as goal

pub returns-in_default-clause-begun : goal.returns-in_default-clause-begun
returns-in_default-clause-begun g c =
    begins_none _ _ _ _ _ _ _ _ fault.Memory (λ clean stored was is same. cc)
    (told_nothing (init_report fault.Memory) _) (λ clean stored was. was)

pub returns-in-Ok-begin-clause-begun : goal.returns-in-Ok-begin-clause-begun
returns-in-Ok-begin-clause-begun g c =
    begins_new _ _ _ _ _ _ _ _ c.in-Ok-begin.ensures.done
    (told_made 0 _ _ _ _ _ (c.as_bytes.ensures.value ∙ c.in-Ok.ensures) c.say.ensures.told)

pub returns-in-Ok-begin-clause-faults : goal.returns-in-Ok-begin-clause-faults
returns-in-Ok-begin-clause-faults g c =
    c.in-Ok-begin.ensures.faults
    ∙ no_fault (record { status = 0; text = c.as_bytes.result.now }) _ _ _ (λ is. cc) c.say.ensures.told _

pub returns-clause-begun : goal.returns-clause-begun
returns-clause-begun g c =
    begins_none _ _ _ _ _ _ _ _ c.in-Err.fault (λ clean stored was is. c.in-Err.ensures.already (cc) clean stored was)
    c.say_unbegun.ensures.told c.in-Err.ensures.refused

pub returns-clause-faults : goal.returns-clause-faults
returns-clause-faults g c = c.in-Err.ensures.faults ∙ c.say_unbegun.ensures.faults _
