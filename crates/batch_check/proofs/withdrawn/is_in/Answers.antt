-- The set is looked up in the order of keys.
use Rattle.std.proofs.Common.{◌≡◌}
use Rattle.std.specs.BTreeSet.{contains}
use Rattle.batch_check.proofs.Orders.{by_key_cmp}
use Rattle.batch_check.proofs.withdrawn.is_in.Goals as goal

pub returns : goal.returns
returns c = by_key_cmp (λ R. c.contains.result ≡ contains R c.args.gone.now c.args.key.now) c.contains.ensures
