use Rattle.std.proofs.Common.{rules}
use Rattle.alto_addr.specs.Order.{addr_cmp, prefix_cmp}
use Rattle.alto_addr.proofs.laws.order_is_by_family.Goals as goal

pub returns-clause-addresses : goal.returns-clause-addresses
unfolding addr_cmp
returns-clause-addresses c = λ a b. search rules

pub returns-clause-prefixes : goal.returns-clause-prefixes
unfolding addr_cmp prefix_cmp
returns-clause-prefixes c = λ a b. search rules
