-- The families of addresses, as numbers of 128 bits (RFC 4291, section 2.5.5).
use Rattle.std.specs.Prelude.{ℕ}
use Rattle.alto_addr.specs.declared.addr.Addr.{Addr}
use Rattle.alto_addr.specs.declared.addr.Addr.TheVariants as addr
use Rattle.pid_prefix.specs.declared.family.Family.{Family}
use Rattle.pid_prefix.specs.declared.family.Family.TheVariants as families

-- the family's address that is this number
abbrev pub address_of : Family → ℕ → Addr
address_of families.V4 number = addr.V4 number
address_of families.V6 number = addr.V6 number

-- how many bits stand before those of the family's addresses
abbrev pub leading_bits : Family → ℕ
leading_bits families.V4 = 96
leading_bits families.V6 = 0
