-- The set gains a copy of the key.
use Rattle.std.proofs.Common.{subst}
use Rattle.std.specs.BTreeSet as set
use Rattle.std.specs.Prelude.{true}
use Rattle.alto_rows.specs.declared.key.Key.{Key}
use Rattle.alto_rows.specs.Order.{key_cmp}
use Rattle.alto_rules.proofs.Orders.{by_key_cmp}
use Rattle.alto_rules.proofs.withdrawal.with_key.Goals as goal

pub returns : goal.returns
returns c =
    subst (λ (q : Key). set.Updates key_cmp c.args.keys c.insert.new.self q true) c.in_ok-copied.ensures
    (by_key_cmp (λ R. set.Updates R c.args.keys c.insert.new.self c.in_ok-copied.field-0 true)
    c.in_ok-insert.ensures.updates)
