-- A fault says that there is no prefix.
use Rattle.std.proofs.Common.{refl}
use Rattle.edit_forms.proofs.ValueLemmas.{no_prefix}
use Rattle.edit_forms.proofs.values.prefix_in.Goals as goal

pub returns-in-Err : goal.returns-in-Err
returns-in-Err c = record { answer = (refl, no_prefix c.args.text.now c.in-Err.field-0 c.in-Err.ensures.err) }
