-- The PID of an address: that with the longest prefix that holds it (RFC 7285, section 11.2.1).
use Rattle.std.specs.Prelude.{◌≡◌, ◌≢◌, ◌≤◌, ℕ, Bool, false, List, Option, Some, None}
use Rattle.std.specs.Prelude.{nat_eq, nat_le, nat_lt, if◌then◌else◌}
use Rattle.std.specs.List.{All, AllPairs, Contains, filter, find, list_all}
use Rattle.std.specs.Option.{option_map}
use Rattle.alto_addr.specs.declared.addr.Addr.{Addr}
use Rattle.alto_addr.specs.declared.addr.Addr.TheVariants.{V4, V6}
use Rattle.alto_addr.specs.declared.prefix.Prefix.{Prefix}
use Rattle.alto_addr.specs.Bits.{Holds, first_bits}

-- a prefix and the PID that it belongs to
abbrev pub Row : Type 0
Row = Prefix × List ℕ

-- the row's prefix holds the address
abbrev pub IsHeldBy : Addr → Row → Type 0
IsHeldBy addr row = Holds row.0.addr row.0.len addr

-- no two rows have the same prefix
abbrev pub AreDistinct : List Row → Type 0
AreDistinct rows = AllPairs (λ one other. one.0 ≢ other.0) rows

-- the PID of a row whose prefix holds the address, where none that holds it is longer; nothing where none holds it
abbrev pub IsLongest : List Row → Addr → Option (List ℕ) → Type 0
IsLongest rows addr None = All (λ row. IsHeldBy addr row → ⊥) rows
IsLongest rows addr (Some pid) = (row : Row) × Contains rows row × (row.1 ≡ pid) × IsHeldBy addr row
    × All (λ other. IsHeldBy addr other → other.0.len ≤ row.0.len) rows

-- whether the prefix of this address and length holds the other
abbrev pub holds : Addr → ℕ → Addr → Bool
holds (V4 fixed) len (V4 number) = nat_eq (first_bits 32 len fixed) (first_bits 32 len number)
holds (V6 fixed) len (V6 number) = nat_eq (first_bits 128 len fixed) (first_bits 128 len number)
holds (V4 fixed) len (V6 number) = false
holds (V6 fixed) len (V4 number) = false

-- the rows whose prefixes hold the address
abbrev pub holding : List Row → Addr → List Row
holding rows addr = filter (λ row. holds row.0.addr row.0.len addr) rows

-- whether none of the rows has a longer prefix
abbrev pub is_longest : List Row → Row → Bool
is_longest rows row = list_all (λ other. nat_le other.0.len row.0.len) rows

-- of the prefixes that hold the address, the PID of the longest, the first where two are as long
unfoldable pub longest_prefix : List Row → Addr → Option (List ℕ)
longest_prefix rows addr = option_map (λ row. row.1) (find (is_longest (holding rows addr)) (holding rows addr))

-- of a row and one behind it, that with the longer prefix, the first where they are as long
abbrev pub longer : Option Row → Row → Row
longer None row = row
longer (Some best) row = if nat_lt best.0.len row.0.len then row else best
