-- Where std reads no address, there is none.
use Rattle.std.proofs.Common.{ℕ, List}
use Rattle.std.specs.declared.net.ip_addr.IpAddr.{IpAddr}
use Rattle.std.specs.declared.net.ip_addr.IpAddr.TheVariants as Ip
use Rattle.std.specs.Net.Grammar.{IsIpText}
use Rattle.alto_addr.specs.declared.addr.Addr.{Addr}
use Rattle.alto_addr.specs.declared.addr.Addr.TheVariants.{V4, V6}
use Rattle.alto_addr.specs.Text.{IsAddrText}
use Rattle.alto_addr.specs.Place.{IsAnyAddr}

no_addr : (text : List ℕ) → ((ip : IpAddr) → ¬ (IsIpText text ip)) → (addr : Addr) → ¬ (IsAddrText text addr)
no_addr text none (V4 number) h = none (Ip.V4 (record { octets = h.0 })) h.1
no_addr text none (V6 number) h = none (Ip.V6 (record { segments = h.0 })) h.1

pub none_read : (text : List ℕ) → ((ip : IpAddr) → ¬ (IsIpText text ip)) → ¬ (IsAnyAddr text)
none_read text none any = no_addr text none any.0 any.1
