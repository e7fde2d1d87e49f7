-- A text with a control character is none that a property may have.
use Rattle.std.proofs.Common.{◌∙◌, refl, sym}
use Rattle.edit_forms.proofs.ValueLemmas.{some_control}
use Rattle.edit_forms.proofs.values.text_in.Goals as goal

pub returns-then-has_control-clause-answer : goal.returns-then-has_control-clause-answer
returns-then-has_control-clause-answer c = (
  refl,
  λ value writes. some_control value (rw writes.0 (sym c.has_control.ensures ∙ c.if-has_control.true))
      writes.1.2,
)
