-- Addresses whose last octet is 0.
use Rattle.std.proofs.Common.{lit<, lit≤}
use Rattle.std.proofs.lemmas.Nat.{mod-mul-add}
use Rattle.std.specs.Prelude.{ℕ, ◌+◌, ◌*◌}
use Rattle.alto_addr.specs.Bits.{IsPrefix}
use Rattle.alto_addr.specs.declared.addr.Addr.TheVariants.{V4}

-- they make prefixes of 24 bits
pub is_block : (high : ℕ) → IsPrefix (V4 (high * 256 + 0)) 24
is_block high = (lit≤ tt, mod-mul-add high 256 0 (lit< tt))
