use Rattle.std.proofs.Common.{Some, ap, ◌∙◌}
use Rattle.alto_commands.proofs.ShowLemmas.{shown_none, shown_some}
use Rattle.alto_commands.proofs.showing.say_document.Goals as goal

pub returns-in-Some-clause-told : goal.returns-in-Some-clause-told
returns-in-Some-clause-told g c = λ named same.
    shown_some c.deref.result.now named _ _ _
    (ap Some c.deref.ensures.value ∙ rw c.in-Some.is at same) c.say.ensures.told

pub returns-in-None-clause-told : goal.returns-in-None-clause-told
returns-in-None-clause-told g c =
    λ named same. shown_none named _ _ _ (rw c.in-None.is at same) c.say-in-None.ensures.told
