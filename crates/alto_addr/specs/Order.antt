-- The order of addresses and of prefixes, which that of rows follows.
use Rattle.std.specs.Prelude.{ℕ}
use Rattle.std.specs.Ordering.{nat_cmp, ordering_then}
use Rattle.std.specs.declared.cmp.Ordering.{Ordering}
use Rattle.alto_addr.specs.declared.addr.Addr.{Addr}
use Rattle.alto_addr.specs.declared.addr.Addr.TheVariants.{V4, V6}
use Rattle.alto_addr.specs.declared.prefix.Prefix.{Prefix}
use Rattle.alto_addr.specs.Bits.{number_of}

-- the version of the Internet Protocol whose address it is
abbrev pub family_of : Addr → ℕ
family_of (V4 number) = 4
family_of (V6 number) = 6

-- addresses by family, then by number
unfoldable pub addr_cmp : Addr → Addr → Ordering
addr_cmp a b = ordering_then (nat_cmp (family_of a) (family_of b)) (nat_cmp (number_of a) (number_of b))

-- prefixes by address, then by length
unfoldable pub prefix_cmp : Prefix → Prefix → Ordering
prefix_cmp a b = ordering_then (addr_cmp a.addr b.addr) (nat_cmp a.len b.len)
