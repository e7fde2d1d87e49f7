use Rattle.std.proofs.Common.{refl, inl, inr, sym, ◌∙◌}
use Rattle.alto_commands.proofs.ReportLemmas.{told_made, told_not}
use Rattle.alto_run.specs.Runs.{IsRefused}
use Rattle.alto_run.proofs.IfLemmas.{if_any, if_none, if_this, one_three, one_two, some_none}
use Rattle.alto_run.proofs.StatusLemmas.{comes_not_two, reads_stay}
use Rattle.alto_run.proofs.TaskLemmas.{comes_out}
use Rattle.alto_run.proofs.running.run.Goals as goal

pub say-requires : goal.say-requires
say-requires g c = λ is. cc

pub do_task-requires-after_bounds : goal.do_task-requires-after_bounds
do_task-requires-after_bounds g c lifetimes within = c.in-Ok.ensures.ranges

-- ---- a task

pub returns-in-Ok-clause-faulty : goal.returns-in-Ok-clause-faulty
returns-in-Ok-clause-faulty g c = λ is. absurd (comes_not_two _ _ _ _ _ c.do_task.ensures.done is)

pub returns-in-Ok-clause-refused : goal.returns-in-Ok-clause-refused
returns-in-Ok-clause-refused g c = λ none. absurd (some_none (sym c.in-Ok.ensures.meant ∙ none))

pub returns-in-Ok-clause-done : goal.returns-in-Ok-clause-done
returns-in-Ok-clause-done g c = if_this _ _ _ c.in-Ok.ensures.meant c.do_task.ensures.done

pub returns-in-Ok-clause-counted : goal.returns-in-Ok-clause-counted
returns-in-Ok-clause-counted g c = c.do_task.ensures.counted

pub returns-in-Ok-clause-reads : goal.returns-in-Ok-clause-reads
returns-in-Ok-clause-reads g c = c.do_task.ensures.reads

pub returns-in-Ok-clause-writes : goal.returns-in-Ok-clause-writes
returns-in-Ok-clause-writes g c = c.do_task.ensures.writes

-- ---- no task

pub returns-in-Err-Outside-clause-faulty : goal.returns-in-Err-Outside-clause-faulty
returns-in-Err-Outside-clause-faulty g c = λ is. c.in-Err-Outside.ensures.outside c.in-Err-Outside.field-0-is

pub returns-in-Err-Outside-clause-refused : goal.returns-in-Err-Outside-clause-refused
unfolding IsRefused
returns-in-Err-Outside-clause-refused g c =
    λ none. inl (told_made 2 _ _ _ _ _ c.as_bytes.ensures.value c.say.ensures.told)

pub returns-in-Err-Outside-clause-done : goal.returns-in-Err-Outside-clause-done
returns-in-Err-Outside-clause-done g c = if_none _ _ (c.in-Err-Outside.ensures.outside c.in-Err-Outside.field-0-is)

pub returns-in-Err-Outside-clause-counted : goal.returns-in-Err-Outside-clause-counted
returns-in-Err-Outside-clause-counted g c = λ is. absurd
    (told_not 3 (record { status = 2; text = c.as_bytes.result.now }) _ _ _
    (λ is. cc) (λ is. cc) (λ is. cc) c.say.ensures.told is)

pub returns-in-Err-Outside-clause-reads : goal.returns-in-Err-Outside-clause-reads
returns-in-Err-Outside-clause-reads g c = reads_stay _ _ _ c.say.ensures.reads
    (told_not 4 (record { status = 2; text = c.as_bytes.result.now }) _ _ _
    (λ is. cc) (λ is. cc) (λ is. cc) c.say.ensures.told)

pub returns-in-Err-Outside-clause-writes : goal.returns-in-Err-Outside-clause-writes
returns-in-Err-Outside-clause-writes g c = c.say.ensures.writes

-- ---- memory ran out

pub returns-in-Err-Memory-clause-faulty : goal.returns-in-Err-Memory-clause-faulty
returns-in-Err-Memory-clause-faulty g c = λ is. absurd (one_two is)

pub returns-in-Err-Memory-clause-refused : goal.returns-in-Err-Memory-clause-refused
unfolding IsRefused
returns-in-Err-Memory-clause-refused g c = λ none. inr (refl, refl)

pub returns-in-Err-Memory-clause-done : goal.returns-in-Err-Memory-clause-done
returns-in-Err-Memory-clause-done g c =
    if_any _ _ (λ task. comes_out task _ _ _ _ (λ path kept was. was) (refl, refl))

pub returns-in-Err-Memory-clause-counted : goal.returns-in-Err-Memory-clause-counted
returns-in-Err-Memory-clause-counted g c = λ is. absurd (one_three is)

pub returns-in-Err-Memory-clause-reads : goal.returns-in-Err-Memory-clause-reads
returns-in-Err-Memory-clause-reads g c = refl

pub returns-in-Err-Memory-clause-writes : goal.returns-in-Err-Memory-clause-writes
returns-in-Err-Memory-clause-writes g c = refl
