-- The texts that write an address (RFC 4291, section 2.2), and the one text that is written for each (RFC 5952, section
-- 4).
use Rattle.std.specs.Prelude.{◌≡◌, ℕ, ◌+◌, ◌*◌, ◌/◌, ◌%◌, ◌^◌, ◌<◌, ◌≤◌, List, [], ◌∷◌, ◌++◌, length, take, drop}
use Rattle.std.specs.Prelude.{replicate, decimal, codes}
use Rattle.std.specs.Net.Grammar.{IsDotted, IsColonHex}
use Rattle.std.specs.Net.Text.{ipv4_text, groups_text, hex_groups_text}
use Rattle.alto_addr.specs.declared.addr.Addr.{Addr}
use Rattle.alto_addr.specs.declared.addr.Addr.TheVariants.{V4, V6}

-- the number that digits of this base write, the highest first
abbrev pub number_after : ℕ → ℕ → List ℕ → ℕ
number_after base before [] = before
number_after base before (digit ∷ digits) = number_after base (before * base + digit) digits

-- four octets, the highest first
abbrev pub octets_of : ℕ → List ℕ
octets_of number = (number / 2 ^ 24) ∷ (number / 2 ^ 16 % 256) ∷ (number / 2 ^ 8 % 256) ∷ (number % 256) ∷ []

-- eight groups of 16 bits, the highest first
abbrev pub groups_of : ℕ → List ℕ
groups_of number =
    (number / 2 ^ 112) ∷ (number / 2 ^ 96 % 65536) ∷ (number / 2 ^ 80 % 65536) ∷ (number / 2 ^ 64 % 65536)
    ∷ (number / 2 ^ 48 % 65536) ∷ (number / 2 ^ 32 % 65536) ∷ (number / 2 ^ 16 % 65536) ∷ (number % 65536) ∷ []

-- the text writes this address
abbrev pub IsAddrText : List ℕ → Addr → Type 0
IsAddrText text (V4 number) = (octets : List ℕ) × IsDotted text octets × (number ≡ number_after 256 0 octets)
IsAddrText text (V6 number) = (groups : List ℕ) × IsColonHex text groups × (number ≡ number_after 65536 0 groups)

-- what is written of an address
abbrev pub addr_text : Addr → List ℕ
addr_text (V4 number) = ipv4_text (octets_of number)
addr_text (V6 number) = hex_groups_text (groups_of number)

-- what is written of a prefix of this address and length
abbrev pub prefix_text : Addr → ℕ → List ℕ
prefix_text addr len = addr_text addr ++ codes "/" ++ decimal len

-- the text writes this address and a length of up to three digits
pub record IsPrefixText (text : List ℕ) (addr : Addr) (len : ℕ) : Type 0 where
  pub addr_text : List ℕ
  pub spelled : text ≡ addr_text ++ codes "/" ++ decimal len
  pub writes_addr : IsAddrText addr_text addr
  pub short : len < 1000

-- so many zero groups stand at the start
abbrev pub IsZeroRun : List ℕ → ℕ → ℕ → Type 0
IsZeroRun groups start len = (start + len ≤ length groups) × (take len (drop start groups) ≡ replicate len 0)

-- the longest run of zero groups, and of several as long the first
pub record IsChosenRun (groups : List ℕ) (start len : ℕ) : Type 0 where
  pub zeros : IsZeroRun groups start len
  pub longest : (other size : ℕ) → IsZeroRun groups other size → size ≤ len
  pub first : (other : ℕ) → IsZeroRun groups other len → start ≤ other

-- the text has the groups in lower case without leading zeros, and the chosen run as `::` if it has two groups or more
pub record IsCompressed (text groups : List ℕ) : Type 0 where
  pub start : ℕ
  pub len : ℕ
  pub run : IsChosenRun groups start len
  pub elided : 2 ≤ len → text ≡ groups_text (take start groups) ++ codes "::" ++ groups_text (drop (start + len) groups)
  pub whole : len < 2 → text ≡ groups_text groups
