-- The key is past all rows, and the map has none of it.
use Rattle.std.proofs.Common.{sym, rules}
use Rattle.std.specs.BTreeMap as map
use Rattle.std.specs.Prelude.{◌≡◌, None}
use Rattle.alto_rules.proofs.Orders.{by_key_cmp}
use Rattle.alto_rules.proofs.written.Written.ends_before.Goals as goal

pub returns-in-None : goal.returns-in-None
returns-in-None c = λ _. (
  c.is_past.ensures (search rules),
  sym (by_key_cmp (λ R. None ≡ map.get R c.args.self.now.other c.args.key.now) c.in-None.ensures.value),
)
