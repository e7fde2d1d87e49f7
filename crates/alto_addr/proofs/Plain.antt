-- No text of an address has a slash.
use Rattle.std.proofs.Common.{◌≡◌, ◌≢◌, ℕ, zero, suc, ◌<◌, ◌≤◌, List, [], ◌∷◌, ◌++◌, refl, sym, subst, arith, lit≤}
use Rattle.std.specs.Char.{digit_value}
use Rattle.std.specs.Str.Parse.{AllDigits}
use Rattle.alto_addr.specs.Languages.{Behind, Either, one, other, Nothing}
use Rattle.alto_addr.specs.Tokens.{IsOctet, IsGroup}
use Rattle.alto_addr.specs.Fronts.{Octets, TailGroups, TailUpTo, HeadGroups, GroupThen, ColonHex, Address}
use Rattle.alto_addr.proofs.Tokens.{decimal_numeral}

-- no byte is a slash
abbrev pub IsPlain : List ℕ → Type 0
IsPlain [] = Unit {0}
IsPlain (byte ∷ text) = (byte ≢ 47) × IsPlain text

plain_append : (front back : List ℕ) → IsPlain front → IsPlain back → IsPlain (front ++ back)
plain_append [] back h k = k
plain_append (byte ∷ front) back h k = (h.0, plain_append front back h.1 k)

pub plain_slash : (front back : List ℕ) → IsPlain (front ++ 47 ∷ back) → ⊥
plain_slash [] back h = h.0 refl
plain_slash (byte ∷ front) back h = plain_slash front back h.1

plain_digits : (radix : ℕ) (text : List ℕ) → radix ≤ 16 → AllDigits radix text → IsPlain text
plain_digits radix [] most h = tt
plain_digits radix (byte ∷ text) most h = (
  λ e. let bad : digit_value 47 < radix = subst (λ b. digit_value b < radix) e h.0 in
      absurd (omega arith),
  plain_digits radix text most h.1,
)

plain_octet : (text : List ℕ) → IsOctet text → IsPlain text
plain_octet text h = plain_digits 10 text (lit≤ tt) (decimal_numeral 256 text (lit≤ tt) h).digits.1

plain_group : (text : List ℕ) → IsGroup text → IsPlain text
plain_group text h = plain_digits 16 text (lit≤ tt) h.digits.1

plain_parts : (text front back : List ℕ) → text ≡ front ++ back → IsPlain front → IsPlain back → IsPlain text
plain_parts text front back split h k = subst IsPlain (sym split) (plain_append front back h k)

plain_behind : (byte : ℕ) (text back : List ℕ) → text ≡ byte ∷ back → byte ≢ 47 → IsPlain back → IsPlain text
plain_behind byte text back split not h = subst IsPlain (sym split) (not, h)

plain_nothing : (text : List ℕ) → Nothing text → IsPlain text
plain_nothing text h = subst IsPlain (sym h.nothing) tt

plain_octets : (n : ℕ) (text : List ℕ) → Octets n text → IsPlain text
unfolding Octets
plain_octets zero text h = plain_octet text h
plain_octets (suc n) text h =
    plain_parts text h.front h.back h.split (plain_octet h.front h.first)
    (plain_behind 46 h.back h.second.back h.second.split (λ e. omega (arith, e))
    (plain_octets n h.second.back h.second.second))

plain_tail_step : (n : ℕ) → ((text : List ℕ) → TailGroups n text → IsPlain text) → (text : List ℕ)
    → Either Nothing (Behind 58 (TailGroups n)) text → IsPlain text
plain_tail_step n later text (one h) = plain_nothing text h
plain_tail_step n later text (other h) =
    plain_behind 58 text h.back h.split (λ e. omega (arith, e)) (later h.back h.second)

plain_tail : (n : ℕ) (text : List ℕ) → TailGroups n text → IsPlain text
unfolding TailGroups
plain_tail zero text h = plain_group text h
plain_tail (suc n) text (one h) =
    plain_parts text h.front h.back h.split (plain_group h.front h.first)
    (plain_tail_step n (λ t. plain_tail n t) h.back h.second)
plain_tail (suc n) text (other h) = plain_octets 3 text h

plain_up_to : (n : ℕ) (text : List ℕ) → TailUpTo n text → IsPlain text
unfolding TailUpTo
plain_up_to zero text h = plain_nothing text h
plain_up_to (suc n) text (one h) = plain_nothing text h
plain_up_to (suc n) text (other h) = plain_tail n text h

plain_next : (n : ℕ) → ((text : List ℕ) → HeadGroups n text → IsPlain text) → (text : List ℕ)
    → Either (Behind 58 (TailUpTo n)) (HeadGroups n) text → IsPlain text
plain_next n later text (one h) =
    plain_behind 58 text h.back h.split (λ e. omega (arith, e)) (plain_up_to n h.back h.second)
plain_next n later text (other h) = later text h

plain_then : (n : ℕ) → ((text : List ℕ) → HeadGroups n text → IsPlain text) → (text : List ℕ)
    → GroupThen n (HeadGroups n) text → IsPlain text
plain_then n later text h =
    plain_parts text h.front h.back h.split (plain_group h.front h.first)
    (plain_behind 58 h.back h.second.back h.second.split (λ e. omega (arith, e))
    (plain_next n later h.second.back h.second.second))

plain_head : (n : ℕ) (text : List ℕ) → HeadGroups n text → IsPlain text
unfolding HeadGroups
plain_head zero text h = plain_group text h
plain_head (suc zero) text (one h) = plain_then zero (λ t. plain_head zero t) text h
plain_head (suc zero) text (other h) = plain_octets 3 text h
plain_head (suc (suc n)) text h = plain_then (suc n) (λ t. plain_head (suc n) t) text h

plain_colon_hex : (text : List ℕ) → ColonHex text → IsPlain text
unfolding ColonHex
plain_colon_hex text (one h) =
    plain_behind 58 text h.back h.split (λ e. omega (arith, e))
    (plain_behind 58 h.back h.second.back h.second.split (λ e. omega (arith, e))
    (plain_up_to 7 h.second.back h.second.second))
plain_colon_hex text (other h) = plain_head 7 text h

pub plain_address : (text : List ℕ) → Address text → IsPlain text
unfolding Address
plain_address text (one h) = plain_colon_hex text h
plain_address text (other h) = plain_octets 3 text h
