use Rattle.std.proofs.Common.{rules, ◌≡◌, map, subst, Option}
use Rattle.alto_words.specs.Tasks.{Gives}
use Rattle.alto_words.specs.declared.task.Task.{Task}
use Rattle.alto_words.proofs.FoundLemmas.{refused_is_outside, taken_is_found}
use Rattle.alto_words.proofs.reading.command_task.Goals as goal

pub returns-in-Err-clause-gives : goal.returns-in-Err-clause-gives
returns-in-Err-clause-gives c other =
    let texts_are : map (λ s. s.now) c.as_slice.result.now ≡ c.args.words.now = search rules in
    refused_is_outside _ _ _ c.in-Err.error c.in_ok-alto.ensures texts_are c.in-Err.ensures.kinds
    (c.fault_in.ensures other)

pub returns-clause-gives : goal.returns-clause-gives
returns-clause-gives c =
    let texts_are : map (λ s. s.now) c.as_slice.result.now ≡ c.args.words.now = search rules in
    subst (λ (meant : Option Task). Gives meant c.task_found.result)
    (taken_is_found _ _ _ _ c.in_ok-alto.ensures texts_are c.in-Ok.ensures.kinds c.in-Ok.ensures.matches)
    c.task_found.ensures.gives
