-- A text writes one prefix at most.
use Rattle.std.proofs.Common.{◌≡◌, ℕ, List, [], ◌∷◌, ◌++◌, get_or, drop, decimal, refl, sym, ap, ◌∙◌, subst, arith}
use Rattle.std.proofs.Common.{append_assoc}
use Rattle.std.proofs.lemmas.Fmt.{decimal_injective}
use Rattle.alto_addr.specs.declared.addr.Addr.{Addr}
use Rattle.alto_addr.specs.Text.{IsAddrText, IsPrefixText}
use Rattle.alto_addr.proofs.Plain.{IsPlain}
use Rattle.alto_addr.proofs.Prefixes.{plain_any}
use Rattle.alto_addr.proofs.Written.{one_address}

-- texts without a slash are one where what is behind a slash makes them alike
before_slash : (one other back later : List ℕ) → IsPlain one → IsPlain other → one ++ 47 ∷ back ≡ other ++ 47 ∷ later
    → (one ≡ other) × (back ≡ later)
before_slash [] [] back later h k e = (refl, ap (drop 1) e)
before_slash [] (b ∷ other) back later h k e = absurd (k.0 (sym (ap (λ t. get_or t 0 0) e)))
before_slash (a ∷ one) [] back later h k e = absurd (h.0 (ap (λ t. get_or t 0 0) e))
before_slash (a ∷ one) (b ∷ other) back later h k e =
    let same = before_slash one other back later h.1 k.1 (ap (drop 1) e) in
    let first : a ≡ b = ap (λ t. get_or t 0 0) e in
    (ap (λ c. c ∷ one) first ∙ ap (λ t. b ∷ t) same.0, same.1)

pub one_prefix : (text : List ℕ) (one other : Addr) (len size : ℕ) → IsPrefixText text one len
    → IsPrefixText text other size
    → (one ≡ other) × (len ≡ size)
one_prefix text one other len size h k =
    let first : text ≡ h.addr_text ++ 47 ∷ decimal len = h.spelled ∙ append_assoc h.addr_text (47 ∷ []) (decimal len) in
    let second : text ≡ k.addr_text ++ 47 ∷ decimal size =
    k.spelled ∙ append_assoc k.addr_text (47 ∷ []) (decimal size) in
    let same = before_slash h.addr_text k.addr_text (decimal len) (decimal size)
    (plain_any h.addr_text (one, h.writes_addr))
    (plain_any k.addr_text (other, k.writes_addr)) (sym first ∙ second) in (
      one_address k.addr_text one other (subst (λ t. IsAddrText t one) same.0 h.writes_addr) k.writes_addr,
      decimal_injective len size (omega (arith, h.short)) (omega (arith, k.short)) same.1,
    )
