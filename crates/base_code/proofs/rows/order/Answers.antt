use Rattle.std.proofs.Common.{◌∙◌}
use Rattle.alto_rows.proofs.OrderLemmas.{derived_key_cmp}
use Rattle.base_code.proofs.rows.order.Goals as goal

pub returns : goal.returns
returns c = c.cmp.ensures ∙ derived_key_cmp c.args.key.now c.args.other.now
