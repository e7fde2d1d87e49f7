-- The map gains a copy of the write.
use Rattle.std.proofs.Common.{subst}
use Rattle.std.specs.BTreeMap as map
use Rattle.std.specs.Prelude.{Option, Some}
use Rattle.alto_rows.specs.declared.key.Key.{Key}
use Rattle.alto_rows.specs.declared.value.Value.{Value}
use Rattle.alto_rows.specs.Order.{key_cmp}
use Rattle.alto_rows.proofs.ChangeLemmas.{by_key_cmp}
use Rattle.alto_rows.proofs.plain.with_last.Goals as goal

pub returns-clause-updates : goal.returns-clause-updates
returns-clause-updates c =
    subst (λ (copy : Key × Option Value). map.Updates key_cmp c.args.last c.insert.new.self copy.0 (Some copy.1))
    c.in_ok-key.ensures
    (by_key_cmp (λ R. map.Updates R c.args.last c.insert.new.self c.in_ok-key.key (Some c.in_ok-key.value))
    c.in_ok-insert.ensures.updates)

pub returns-clause-ordered : goal.returns-clause-ordered
returns-clause-ordered c = by_key_cmp (λ R. map.IsOrdered R c.insert.new.self) c.insert.ensures.ordered
