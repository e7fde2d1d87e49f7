-- What a fault of reading says of the text, and what is written of it.
use Rattle.std.specs.Prelude.{ℕ, List, ◌++◌, decimal, codes}
use Rattle.alto_addr.specs.declared.addr.Addr.{Addr}
use Rattle.alto_addr.specs.declared.fault.AddrFault.{AddrFault}
use Rattle.alto_addr.specs.declared.fault.AddrFault.TheVariants.{BadText, BadLength, HostBits}
use Rattle.alto_addr.specs.Bits.{HasLength, HasNoHostBits}
use Rattle.alto_addr.specs.Text.{IsPrefixText}
use Rattle.alto_addr.specs.Place.{IsLongestFront, IsAnyAddr, IsAnyPrefix}

-- the text writes no address, and goes along with one for so many bytes
abbrev pub IsAddrFault : List ℕ → AddrFault → Type 0
IsAddrFault text (BadText place) = ¬ (IsAnyAddr text) × IsLongestFront IsAnyAddr text place
IsAddrFault text BadLength = ⊥
IsAddrFault text HostBits = ⊥

-- the first of three: the text writes no address and length, the address hasn't so many bits, a bit past them isn't
-- zero
abbrev pub IsPrefixFault : List ℕ → AddrFault → Type 0
IsPrefixFault text (BadText place) = ¬ (IsAnyPrefix text) × IsLongestFront IsAnyPrefix text place
IsPrefixFault text BadLength = (addr : Addr) × (len : ℕ) × IsPrefixText text addr len × ¬ (HasLength addr len)
IsPrefixFault text HostBits =
    (addr : Addr) × (len : ℕ) × IsPrefixText text addr len × HasLength addr len × ¬ (HasNoHostBits addr len)

-- the first of two: the address hasn't so many bits, or a bit past them isn't zero
abbrev pub IsLengthFault : Addr → ℕ → AddrFault → Type 0
IsLengthFault addr len (BadText place) = ⊥
IsLengthFault addr len BadLength = ¬ (HasLength addr len)
IsLengthFault addr len HostBits = HasLength addr len × ¬ (HasNoHostBits addr len)

-- what is written of a fault
abbrev pub fault_text : AddrFault → List ℕ
fault_text (BadText place) = codes "a fault at place " ++ decimal place
fault_text BadLength = codes "a length greater than the address"
fault_text HostBits = codes "a bit past the length isn't zero"
