use Rattle.std.proofs.Common.{◌∙◌, sym, subst, Option}
use Rattle.clap.specs.Words.{found_of}
use Rattle.alto_words.specs.Tasks.{Gives}
use Rattle.alto_words.specs.declared.task.Task.{Task}
use Rattle.alto_words.proofs.FoundLemmas.{found_is, no_task, task_is}
use Rattle.alto_words.proofs.reading.task_found.Goals as goal

pub returns-in-Some-read-clause-gives : goal.returns-in-Some-read-clause-gives
returns-in-Some-read-clause-gives c =
    subst (λ (meant : Option Task). Gives meant c.task_in.result)
    (task_is _ _ (found_of c.in-Some.values.now) _ (found_is _ _ _ c.in-Some.ensures.name c.in-Some.ensures.rows)
    (sym c.read.ensures ∙ c.in-Some-read.is))
    c.task_in.ensures.gives

pub returns-in-None-clause-gives : goal.returns-in-None-clause-gives
returns-in-None-clause-gives c other =
    no_task _ _ (found_of c.in-Some.values.now) (found_is _ _ _ c.in-Some.ensures.name c.in-Some.ensures.rows)
    (sym c.read.ensures ∙ c.in-None.is)
