-- Where some column holds something it is the fault, and else what was made is the answer.
use Rattle.std.proofs.Common.{◌∙◌, ap, sym}
use Rattle.edit_forms.proofs.ColumnLemmas.{unless_filled-first, unless_at}
use Rattle.edit_forms.proofs.values.ends.Goals as goal

pub returns-in-Some-clause-answer : goal.returns-in-Some-clause-answer
returns-in-Some-clause-answer c =
    sym (ap (unless_at c.args.first c.args.edit) c.in-Some.is)
    ∙ unless_filled-first c.args.first c.args.texts.now c.args.edit c.filled_place.result c.filled_place.ensures.place

pub returns-in-None-clause-answer : goal.returns-in-None-clause-answer
returns-in-None-clause-answer c =
    sym (ap (unless_at c.args.first c.args.edit) c.in-None.is)
    ∙ unless_filled-first c.args.first c.args.texts.now c.args.edit c.filled_place.result c.filled_place.ensures.place
