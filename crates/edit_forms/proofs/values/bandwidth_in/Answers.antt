-- The one name reads as a name.
use Rattle.std.proofs.Common.{rules, tests}
use Rattle.edit_forms.proofs.ValueLemmas.{bandwidth_read}
use Rattle.edit_forms.proofs.values.bandwidth_in.Goals as goal

pub returns-then-eq-clause-answer : goal.returns-then-eq-clause-answer
returns-then-eq-clause-answer c =
    bandwidth_read c.args.column c.args.text.now c.name_in.result (search (rules, tests)) c.name_in.ensures.answer
