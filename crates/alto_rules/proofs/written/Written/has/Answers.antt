-- The map tells of a key, or else the rows that were put.
use Rattle.std.proofs.Common.{refl}
use Rattle.std.specs.BTreeMap as map
use Rattle.std.specs.Prelude.{◌≡◌, Some, None}
use Rattle.alto_rows.specs.Order.{key_cmp}
use Rattle.alto_rules.proofs.Orders.{by_key_cmp}
use Rattle.alto_rules.proofs.written.Written.has.Goals as goal

pub returns-in-Some : goal.returns-in-Some
returns-in-Some c =
    let here : Some c.in-Some.has.now ≡ map.get key_cmp c.args.self.now.other c.args.key.now =
    by_key_cmp (λ R. Some c.in-Some.has.now ≡ map.get R c.args.self.now.other c.args.key.now) c.in-Some.ensures.value in
    rw (← here) refl

pub returns-in-None : goal.returns-in-None
returns-in-None c =
    let none : None ≡ map.get key_cmp c.args.self.now.other c.args.key.now =
    by_key_cmp (λ R. None ≡ map.get R c.args.self.now.other c.args.key.now) c.in-None.ensures.value in
    rw (← none) c.put_in.ensures
