-- Addresses as the system tells them.
use Rattle.std.specs.Net.Addr.{ipv4_bits, ipv6_bits}
use Rattle.std.specs.declared.net.ip_addr.IpAddr.{IpAddr}
use Rattle.std.specs.declared.net.ip_addr.IpAddr.TheVariants as ip
use Rattle.alto_addr.specs.declared.addr.Addr.{Addr}
use Rattle.alto_addr.specs.declared.addr.Addr.TheVariants as addr

-- an address of the system's, as its number
abbrev pub addr_of : IpAddr → Addr
addr_of (ip.V4 a) = addr.V4 (ipv4_bits a)
addr_of (ip.V6 a) = addr.V6 (ipv6_bits a)
