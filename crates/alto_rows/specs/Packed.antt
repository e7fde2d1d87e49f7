-- A prefix whose address is kept in two halves.
use Rattle.std.specs.Prelude.{ℕ, Bool, true, false, ◌+◌, ◌*◌, ◌%◌, ◌^◌}
use Rattle.alto_addr.specs.declared.addr.Addr.{Addr}
use Rattle.alto_addr.specs.declared.addr.Addr.TheVariants.{V4, V6}

-- the address of this family whose number has these halves of 64 bits; one of IPv4 has the last 32 bits alone
abbrev pub addr_of : Bool → ℕ → ℕ → Addr
addr_of false high low = V4 (low % 2 ^ 32)
addr_of true high low = V6 (high * 2 ^ 64 + low)
