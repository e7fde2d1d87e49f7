-- The faults of a prefix, from those of its parts.
use Rattle.std.proofs.Common.{◌≡◌, ℕ, List, Result, Ok, Err, sym, subst}
use Rattle.std.specs.Prelude.{IfOk, IfErr}
use Rattle.alto_addr.specs.declared.addr.Addr.{Addr}
use Rattle.alto_addr.specs.declared.prefix.Prefix.{Prefix}
use Rattle.alto_addr.specs.declared.fault.AddrFault.{AddrFault}
use Rattle.alto_addr.specs.declared.fault.AddrFault.TheVariants.{BadText, BadLength, HostBits}
use Rattle.alto_addr.specs.Text.{IsPrefixText}
use Rattle.alto_addr.specs.Faults.{IsPrefixFault, IsLengthFault}

fault_of : (text : List ℕ) (addr : Addr) (len : ℕ) → IsPrefixText text addr len → (fault : AddrFault)
    → IsLengthFault addr len fault → IsPrefixFault text fault
fault_of text addr len h (BadText place) k = absurd k
fault_of text addr len h BadLength k = (addr, len, h, k)
fault_of text addr len h HostBits k = (addr, len, h, k.0, k.1)

pub if_err : {T : Type 0} (text : List ℕ) (addr : Addr) (len : ℕ) → IsPrefixText text addr len
    → (r : Result T AddrFault)
    → IfErr r (λ fault. IsLengthFault addr len fault) → IfErr r (λ fault. IsPrefixFault text fault)
if_err text addr len h (Ok value) k = k
if_err text addr len h (Err fault) k = fault_of text addr len h fault k

pub if_ok : {E : Type 0} (text : List ℕ) (addr : Addr) (len : ℕ) → IsPrefixText text addr len → (r : Result Prefix E)
    → IfOk r (λ prefix. (prefix.addr ≡ addr) × (prefix.len ≡ len))
    → IfOk r (λ prefix. IsPrefixText text prefix.addr prefix.len)
if_ok text addr len h (Ok prefix) k =
    subst (λ a. IsPrefixText text a prefix.len) (sym k.0) (subst (λ l. IsPrefixText text addr l) (sym k.1) h)
if_ok text addr len h (Err fault) k = k
