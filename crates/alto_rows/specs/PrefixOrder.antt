-- The order of prefixes is total.
use Rattle.std.proofs.Common.{◌≡◌, rules, subst}
use Rattle.std.proofs.Math.Path.{fun_ext}
use Rattle.std.specs.Cmp.{IsTotalOrder}
use Rattle.std.specs.Cmp.Rules.{comparing}
use Rattle.std.specs.Ordering.{nat_cmp, on, then_cmp}
use Rattle.std.specs.declared.cmp.Ordering.{Ordering}
use Rattle.alto_addr.specs.contracts.prefix.PrefixOrd.TheImpl as prefix_order
use Rattle.alto_addr.specs.declared.prefix.Prefix.{Prefix}
use Rattle.alto_addr.specs.Bits.{number_of}
use Rattle.alto_addr.specs.Order.{addr_cmp, prefix_cmp, family_of}

-- prefixes by family, then by number, then by length
abbrev in_parts : Prefix → Prefix → Ordering
in_parts = then_cmp (then_cmp (on (λ p. family_of p.addr) nat_cmp) (on (λ p. number_of p.addr) nat_cmp))
    (on (λ p. p.len) nat_cmp)

in_parts_total : IsTotalOrder in_parts
in_parts_total = search (comparing, rules)

-- the derived comparison goes by these parts
in_parts-derived : (a b : Prefix) → in_parts a b ≡ prefix_order.cmp-value.it a b
unfolding addr_cmp prefix_cmp
in_parts-derived a b = search rules

-- so it is total
pub prefix_order_total : IsTotalOrder prefix_order.cmp-value.it
prefix_order_total =
    subst (λ (R : Prefix → Prefix → Ordering). IsTotalOrder R) (fun_ext (λ a. fun_ext (λ b. in_parts-derived a b)))
    in_parts_total
