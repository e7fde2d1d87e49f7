use Rattle.std.proofs.Common.{◌∙◌, sym}
use Rattle.alto_rules.proofs.NextRunLemmas.{moved_here, moved_on}
use Rattle.alto_rules.proofs.runs.led.Goals as goal

pub returns-then-not-is_past : goal.returns-then-not-is_past
returns-then-not-is_past c = λ rows last s after r.
    moved_here rows _ _ _ _ _ s r c.in_ok-row.ensures.cases.0 after (sym c.is_past.ensures ∙ c.if-not-is_past.true)

pub returns : goal.returns
returns c = λ rows last s after r.
    moved_on rows _ _ _ _ _ _ _ s r c.in_ok-row.ensures.cases.0 c.in_ok-next.ensures.cases.0 after
    (sym c.is_past.ensures ∙ c.if-not-is_past.false) (sym c.is_past-2.ensures ∙ c.if-is_past.false)
