use Rattle.alto_commands.proofs.trimming.say_trimmed.Goals as goal

pub returns-in-Err-clause-told : goal.returns-in-Err-clause-told
returns-in-Err-clause-told g c = rw c.in-Err.is (c.status_of.ensures.told _)
