-- The map gains a copy of the key, and tells what was there of it.
use Rattle.std.proofs.Common.{subst}
use Rattle.std.specs.BTreeMap as map
use Rattle.std.specs.Prelude.{◌≡◌, Some}
use Rattle.alto_rows.specs.declared.key.Key.{Key}
use Rattle.alto_rows.specs.Order.{key_cmp}
use Rattle.alto_rules.proofs.Orders.{by_key_cmp}
use Rattle.alto_rules.proofs.written.add_key.Goals as goal

pub returns-clause-all : goal.returns-clause-all
returns-clause-all c =
    subst (λ (q : Key). map.Updates key_cmp c.args.written.now c.insert.new.self q (Some c.args.has))
    c.in_ok-copied.ensures
    (by_key_cmp (λ R. map.Updates R c.args.written.now c.insert.new.self c.in_ok-copied.field-0 (Some c.args.has))
    c.in_ok-old.ensures.updates)

pub returns-clause-old : goal.returns-clause-old
returns-clause-old c =
    subst (λ (q : Key). c.in_ok-old.old ≡ map.get key_cmp c.args.written.now q) c.in_ok-copied.ensures
    (by_key_cmp (λ R. c.in_ok-old.old ≡ map.get R c.args.written.now c.in_ok-copied.field-0) c.in_ok-old.ensures.old)
