use Rattle.std.proofs.Common.{refl, ◌∙◌}
use Rattle.alto_run.specs.Runs.{drill_text}
use Rattle.alto_commands.proofs.ReportLemmas.{count_stays, told_made, told_nothing}
use Rattle.alto_run.proofs.StatusLemmas.{no_read, no_words, prints, prints_no_fault, prints_not}
use Rattle.alto_run.proofs.running.say_drilled.Goals as goal

pub drilled_text-requires-clause-at_least : goal.drilled_text-requires-clause-at_least
drilled_text-requires-clause-at_least g c = c.requires.at_least

pub drilled_text-requires-clause-at_most : goal.drilled_text-requires-clause-at_most
drilled_text-requires-clause-at_most g c = c.requires.at_most

-- ---- it was drilled

pub say-requires : goal.say-requires
say-requires g c = λ is. cc

pub returns-in-Ok-clause-told : goal.returns-in-Ok-clause-told
returns-in-Ok-clause-told g c =
    prints _ _ _ _ (told_made 0 _ _ _ _ _ (c.as_bytes.ensures.value ∙ c.in-Ok.ensures) c.say.ensures.told)

pub returns-in-Ok-clause-status : goal.returns-in-Ok-clause-status
returns-in-Ok-clause-status g c = prints_not 2 no_words _ _ _ _ (prints _ _ _ _ c.say.ensures.told)

pub returns-in-Ok-clause-writes : goal.returns-in-Ok-clause-writes
returns-in-Ok-clause-writes g c = c.say.ensures.writes

pub returns-in-Ok-clause-reads : goal.returns-in-Ok-clause-reads
returns-in-Ok-clause-reads g c =
    c.say.ensures.reads ∙ count_stays 4 _ _ _ (prints_not 4 no_read _ _ _ _ (prints _ _ _ _ c.say.ensures.told))

pub returns-in-Ok-clause-vault : goal.returns-in-Ok-clause-vault
returns-in-Ok-clause-vault g c = prints_no_fault _ _ _ _ (prints _ _ _ _ c.say.ensures.told)

-- ---- memory ran out

pub returns-in-Err-clause-told : goal.returns-in-Err-clause-told
returns-in-Err-clause-told g c = prints _ _ _ _
    (told_nothing (record { status = 0; text = drill_text c.args.number c.args.batches }) _)

pub returns-in-Err-clause-status : goal.returns-in-Err-clause-status
returns-in-Err-clause-status g c = λ is. cc

pub returns-in-Err-clause-writes : goal.returns-in-Err-clause-writes
returns-in-Err-clause-writes g c = refl

pub returns-in-Err-clause-reads : goal.returns-in-Err-clause-reads
returns-in-Err-clause-reads g c = refl

pub returns-in-Err-clause-vault : goal.returns-in-Err-clause-vault
returns-in-Err-clause-vault g c = λ is. cc
