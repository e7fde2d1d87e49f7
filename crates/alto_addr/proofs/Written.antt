-- What is written of an address reads as it, and a text writes one address.
use Rattle.std.proofs.Common.{◌≡◌, ℕ, zero, suc, ◌^◌, ◌<◌, List, get_or, refl, sym, ap, ◌∙◌, arith}
use Rattle.std.specs.declared.net.ipv4_addr.Ipv4Addr.{Ipv4Addr}
use Rattle.std.specs.declared.net.ipv6_addr.Ipv6Addr.{Ipv6Addr}
use Rattle.std.specs.Net.Addr.{ipv4_octets, ipv6_segments}
use Rattle.std.proofs.NetLemmas.Texts.{IsDotted-ipv4_text, IsColonHex-hex_groups_text}
use Rattle.std.proofs.NetLemmas.Theorems.{IsIpv4Text_unique, IsIpv6Text_unique}
use Rattle.std.proofs.NetLemmas.Ipv6.{IsDotted-not_colon_hex}
use Rattle.alto_addr.specs.declared.addr.Addr.{Addr}
use Rattle.alto_addr.specs.declared.addr.Addr.TheVariants.{V4, V6}
use Rattle.alto_addr.specs.Bits.{HasBits, IsPrefix}
use Rattle.alto_addr.specs.Text.{IsAddrText, IsPrefixText, number_after, octets_of, groups_of, addr_text, prefix_text}

pub one_address : (text : List ℕ) (one other : Addr) → IsAddrText text one → IsAddrText text other → one ≡ other
one_address text (V4 a) (V4 b) h k =
    let ip : Ipv4Addr = record { octets = h.0 } in
    let other : Ipv4Addr = record { octets = k.0 } in
    let same : h.0 ≡ k.0 = ap ipv4_octets (IsIpv4Text_unique text ip other h.1 k.1) in
    ap V4 (h.2 ∙ ap (number_after 256 0) same ∙ sym k.2)
one_address text (V6 a) (V6 b) h k =
    let ip : Ipv6Addr = record { segments = h.0 } in
    let other : Ipv6Addr = record { segments = k.0 } in
    let same : h.0 ≡ k.0 = ap ipv6_segments (IsIpv6Text_unique text ip other h.1 k.1) in
    ap V6 (h.2 ∙ ap (number_after 65536 0) same ∙ sym k.2)
one_address text (V4 a) (V6 b) h k = absurd (IsDotted-not_colon_hex text _ _ h.1 k.1)
one_address text (V6 a) (V4 b) h k = absurd (IsDotted-not_colon_hex text _ _ k.1 h.1)

octets_fit : (number : ℕ) → number < 2 ^ 32 → (k : ℕ) → get_or (octets_of number) k 0 < 2 ^ 8
octets_fit number fits zero = omega arith
octets_fit number fits (suc zero) = omega arith
octets_fit number fits (suc (suc zero)) = omega arith
octets_fit number fits (suc (suc (suc zero))) = omega arith
octets_fit number fits (suc (suc (suc (suc k)))) = omega arith

octets_value : (number : ℕ) → number ≡ number_after 256 0 (octets_of number)
octets_value number = omega arith

groups_fit : (number : ℕ) → number < 2 ^ 128 → (k : ℕ) → get_or (groups_of number) k 0 < 2 ^ 16
groups_fit number fits zero = omega arith
groups_fit number fits (suc zero) = omega arith
groups_fit number fits (suc (suc zero)) = omega arith
groups_fit number fits (suc (suc (suc zero))) = omega arith
groups_fit number fits (suc (suc (suc (suc zero)))) = omega arith
groups_fit number fits (suc (suc (suc (suc (suc zero))))) = omega arith
groups_fit number fits (suc (suc (suc (suc (suc (suc zero)))))) = omega arith
groups_fit number fits (suc (suc (suc (suc (suc (suc (suc zero))))))) = omega arith
groups_fit number fits (suc (suc (suc (suc (suc (suc (suc (suc k)))))))) = omega arith

groups_value : (number : ℕ) → number ≡ number_after 65536 0 (groups_of number)
groups_value number = omega arith

pub reads_as_written : (addr : Addr) → HasBits addr → IsAddrText (addr_text addr) addr
reads_as_written (V4 number) fits =
    (octets_of number, IsDotted-ipv4_text (octets_of number) refl (octets_fit number fits), octets_value number)
reads_as_written (V6 number) fits =
    (groups_of number, IsColonHex-hex_groups_text (groups_of number) refl (groups_fit number fits), groups_value number)

short_length : (addr : Addr) (len : ℕ) → IsPrefix addr len → len < 1000
short_length (V4 number) len h = omega (arith, h.0)
short_length (V6 number) len h = omega (arith, h.0)

pub prefix_as_written : (addr : Addr) (len : ℕ) → HasBits addr → IsPrefix addr len
    → IsPrefixText (prefix_text addr len) addr len
prefix_as_written addr len fits h = record {
  addr_text = addr_text addr;
  spelled = refl;
  writes_addr = reads_as_written addr fits;
  short = short_length addr len h;
}
