-- The map gains the owner where it has none.
use Rattle.std.proofs.lemmas.Result.{on_ok_weaker}
use Rattle.std.proofs.Common.{sym, ◌∙◌}
use Rattle.alto_rules.proofs.FillingLemmas.{filled_kept, filled_one}
use Rattle.alto_rules.proofs.owners.add_one.Goals as goal

pub returns-then-is_kept : goal.returns-then-is_kept
returns-then-is_kept c = filled_kept c.args.of.now c.args.place c.args.owner (sym c.is_kept.ensures ∙ c.if-is_kept.true)

pub returns-else-is_kept : goal.returns-else-is_kept
returns-else-is_kept c =
    on_ok_weaker c.set_owner.result
    (λ put. filled_one c.args.of.now c.set_owner.new.of c.args.place c.args.owner
    (sym c.is_kept.ensures ∙ c.if-is_kept.false) put)
    c.set_owner.ensures
