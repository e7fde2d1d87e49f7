-- The address is the longest front that begins one, and the length stands behind a slash.
use Rattle.std.proofs.Common.{◌≡◌, ◌+◌, suc, ℕ, List, take, drop, decimal, sym, ap, ◌∙◌, ◌∷◌, ◌<◌, subst, arith}
use Rattle.alto_addr.specs.declared.fault.AddrFault.{AddrFault}
use Rattle.alto_addr.specs.declared.fault.AddrFault.TheVariants.{BadText, BadLength, HostBits}
use Rattle.alto_addr.specs.Tokens.{IsLength}
use Rattle.alto_addr.specs.Place.{IsLongestFront, IsAnyAddr, IsAnyPrefix}
use Rattle.alto_addr.specs.Faults.{IsAddrFault}
use Rattle.alto_addr.proofs.Whole.{IsLongestFront-IsAnyAddr}
use Rattle.alto_addr.proofs.Prefixes.{cut, prefix_of, IsLongestFront-no_slash, IsLongestFront-no_addr}
use Rattle.alto_addr.proofs.Prefixes.{IsLongestFront-slash}
use Rattle.alto_addr.proofs.PrefixFaults.{if_ok, if_err}
use Rattle.alto_addr.proofs.reading.read_prefix.Goals as goal

none_of : (text : List ℕ) (fault : AddrFault) → IsAddrFault text fault → ¬ (IsAnyAddr text)
none_of text (BadText place) h = h.0
none_of text BadLength h = absurd h
none_of text HostBits h = absurd h

no_length : (digits : List ℕ) (len : ℕ) → ¬ (IsLength digits) → digits ≡ decimal len → len < 1000 → ⊥
no_length digits len none e short = none (record { value = len; fits = short; spelled = e })

same_digits : (digits : List ℕ) (len : ℕ) (t : List ℕ) → t ≡ 47 ∷ digits → t ≡ 47 ∷ decimal len → digits ≡ decimal len
same_digits digits len t h k = ap (drop 1) (sym h ∙ k)

pub returns-in_default-clause-err : goal.returns-in_default-clause-err
returns-in_default-clause-err c =
    let text = c.args.text.now in
    let front = IsLongestFront-IsAnyAddr text c.address_front-end.result c.address_front-end.ensures in (
      λ any. c.in_default.ensures _ (cut text _ any.0 any.1 front any.2).slash,
      IsLongestFront-no_slash text _ front
          c.in_default.ensures,
    )

pub returns-in_default-read_addr-clause-err : goal.returns-in_default-read_addr-clause-err
returns-in_default-read_addr-clause-err c =
    let text = c.args.text.now in
    let front = IsLongestFront-IsAnyAddr text c.address_front-end.result c.address_front-end.ensures in
    let none : ¬ (IsAnyAddr (take c.address_front-end.result text)) =
    none_of _ c.in_default-read_addr.field-0 c.in_default-read_addr.ensures.err in
    (λ any. none (cut text _ any.0 any.1 front any.2).any, IsLongestFront-no_addr text _ front none)

pub returns-in-Ok-read_length-clause-ok : goal.returns-in-Ok-read_length-clause-ok
returns-in-Ok-read_length-clause-ok c =
    if_ok c.args.text.now c.in-Ok.addr c.in-Ok-read_length.len
    (prefix_of c.args.text.now c.in-Some.digits.now c.address_front-end.result c.in-Ok-read_length.len c.in-Ok.addr
    c.in-Ok.ensures.ok c.in-Some.ensures c.in-Ok-read_length.ensures.ok.0 c.in-Ok-read_length.ensures.ok.1)
    c.checked.result c.checked.ensures.ok

pub returns-in-Ok-read_length-clause-err : goal.returns-in-Ok-read_length-clause-err
returns-in-Ok-read_length-clause-err c =
    if_err c.args.text.now c.in-Ok.addr c.in-Ok-read_length.len
    (prefix_of c.args.text.now c.in-Some.digits.now c.address_front-end.result c.in-Ok-read_length.len c.in-Ok.addr
    c.in-Ok.ensures.ok c.in-Some.ensures c.in-Ok-read_length.ensures.ok.0 c.in-Ok-read_length.ensures.ok.1)
    c.checked.result c.checked.ensures.err

pub returns-in-Err-clause-err : goal.returns-in-Err-clause-err
returns-in-Err-clause-err c =
    let text = c.args.text.now in
    let n = c.address_front-end.result in
    let place = c.in-Err.place in
    let front = IsLongestFront-IsAnyAddr text n c.address_front-end.ensures in
    let size : n + suc place ≡ n + (1 + place) = omega arith in (
      λ any.
          let parts = cut text n any.0 any.1 front any.2 in
          no_length c.in-Some.digits.now any.1 c.in-Err.ensures.err.0 (same_digits _ _ (drop n text) c.in-Some.ensures
          parts.slash) parts.short,
      subst (λ k. IsLongestFront IsAnyPrefix text k) size
          (IsLongestFront-slash text c.in-Some.digits.now n place front c.in-Some.ensures (
            c.in-Ok.addr,
            c.in-Ok.ensures.ok,
          ) c.in-Err.ensures.err.1),
    )
