-- The bits of addresses and prefixes (RFC 4291, section 2.3).
use Rattle.std.specs.Prelude.{◌≡◌, ℕ, ◌-◌, ◌/◌, ◌%◌, ◌^◌, ◌<◌, ◌≤◌}
use Rattle.alto_addr.specs.declared.addr.Addr.{Addr}
use Rattle.alto_addr.specs.declared.addr.Addr.TheVariants.{V4, V6}

-- the first bits of a number of this width, as many as `len` says, as a number
abbrev pub first_bits : ℕ → ℕ → ℕ → ℕ
first_bits width len number = number / 2 ^ (width - len)

-- the bits past those
abbrev pub last_bits : ℕ → ℕ → ℕ → ℕ
last_bits width len number = number % 2 ^ (width - len)

-- how many bits an address of this family has
abbrev pub width_of : Addr → ℕ
width_of (V4 number) = 32
width_of (V6 number) = 128

-- the number that an address is
abbrev pub number_of : Addr → ℕ
number_of (V4 number) = number
number_of (V6 number) = number

-- the length is one of the family's
abbrev pub HasLength : Addr → ℕ → Type 0
HasLength addr len = len ≤ width_of addr

-- the bits past the length are zero
abbrev pub HasNoHostBits : Addr → ℕ → Type 0
HasNoHostBits addr len = last_bits (width_of addr) len (number_of addr) ≡ 0

-- an address and a length that make a prefix
abbrev pub IsPrefix : Addr → ℕ → Type 0
IsPrefix addr len = HasLength addr len × HasNoHostBits addr len

-- the prefix of this address and length holds the other: one family, and the first bits agree
abbrev pub Holds : Addr → ℕ → Addr → Type 0
Holds (V4 fixed) len (V4 number) = first_bits 32 len fixed ≡ first_bits 32 len number
Holds (V6 fixed) len (V6 number) = first_bits 128 len fixed ≡ first_bits 128 len number
Holds (V4 fixed) len (V6 number) = ⊥
Holds (V6 fixed) len (V4 number) = ⊥

-- the inner prefix is within the outer, which isn't longer, and holds the inner's address
abbrev pub IsInside : Addr → ℕ → Addr → ℕ → Type 0
IsInside inner inner_len outer outer_len = (outer_len ≤ inner_len) × Holds outer outer_len inner

-- the number is one of so many bits, as each address's is
abbrev pub HasBits : Addr → Type 0
HasBits addr = number_of addr < 2 ^ width_of addr
