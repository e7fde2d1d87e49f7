-- Each whole text of an address is one of the grammar from the left.
use Rattle.std.proofs.Common.{◌≡◌, ℕ, zero, suc, ◌+◌, ◌<◌, ◌≤◌, true, false, List, [], ◌∷◌, ◌++◌, length, refl, sym, ap}
use Rattle.std.proofs.Common.{◌∙◌, subst, inl, inr, arith, append_assoc, append-nil, true≢false}
use Rattle.std.specs.Net.Grammar.{IsGroups, IsColonHex}
use Rattle.alto_addr.specs.declared.addr.Addr.{Addr}
use Rattle.alto_addr.specs.declared.addr.Addr.TheVariants.{V4, V6}
use Rattle.alto_addr.specs.Text.{IsAddrText, number_after}
use Rattle.alto_addr.specs.Place.{IsLongestFront, IsAnyAddr}
use Rattle.alto_addr.specs.Languages.{Behind, Either, one, other}
use Rattle.alto_addr.specs.Tokens.{IsGroup}
use Rattle.alto_addr.specs.Fronts.{Octets, TailGroups, TailUpTo, HeadGroups, ColonHex, Address}
use Rattle.alto_addr.proofs.Grammar.{group_of, unshift, two_segments, octets_of_dotted, dotted_of_octets}
use Rattle.alto_addr.proofs.Grammar.{colon_hex_whole}

-- a group alone
last_tail : (n : ℕ) (text : List ℕ) → IsGroup text → TailGroups n text
unfolding TailGroups
last_tail zero text h = h
last_tail (suc n) text h = one (record {
  front = text;
  back = [];
  split = sym (append-nil text);
  first = h;
  second = one (record { nothing = refl });
})

dotted_tail : (n : ℕ) (text : List ℕ) → Octets 3 text → TailGroups (suc n) text
unfolding TailGroups
dotted_tail n text h = other h

next_tail : (n : ℕ) (text front back rest : List ℕ) → text ≡ front ++ back → back ≡ 58 ∷ rest → IsGroup front
    → TailGroups n rest → TailGroups (suc n) text
unfolding TailGroups
next_tail n text front back rest split colon h tail =
    one (record {
      front = front;
      back = back;
      split = split;
      first = h;
      second = other (record { back = rest; split = colon; second = tail });
    })

tail_of : (n : ℕ) (text : List ℕ) (s : ℕ) (segments : List ℕ) → IsGroups true text (s ∷ segments) → length segments ≤ n
    → TailGroups n text
tail_of n text s [] (inl h) few =
    last_tail n text (subst IsGroup (sym (append-nil h.0) ∙ ap (λ t. h.0 ++ t) (sym h.4) ∙ sym h.2)
    (group_of h.0 s h.3))
tail_of zero text s (t ∷ segments) (inl h) few = absurd (omega arith)
tail_of (suc n) text s (t ∷ segments) (inl h) few =
    let (rest, colon, later) = unshift true h.1 t segments h.4 in
    next_tail n text h.0 h.1 rest h.2 colon (group_of h.0 s h.3) (tail_of n rest t segments later (omega arith))
tail_of zero text s segments (inr h) few = absurd (omega (arith, two_segments h.0 h.1 s segments h.4 h.5))
tail_of (suc n) text s segments (inr h) few =
    dotted_tail n text (subst (Octets 3) (sym h.3) (octets_of_dotted h.0 h.1 h.4))

up_to_of : (n : ℕ) (text all : List ℕ) → IsGroups true text all → length all ≤ n → TailUpTo n text
unfolding TailUpTo
up_to_of zero text [] h few = record { nothing = h }
up_to_of zero text (s ∷ segments) h few = absurd (omega arith)
up_to_of (suc n) text [] h few = one (record { nothing = h })
up_to_of (suc n) text (s ∷ segments) h few = other (tail_of n text s segments h (omega arith))

-- a group before others
next_head : (n : ℕ) (text front back rest : List ℕ) → text ≡ front ++ back → back ≡ 58 ∷ rest → IsGroup front
    → Either (Behind 58 (TailUpTo n)) (HeadGroups n) rest → HeadGroups (suc n) text
unfolding HeadGroups
next_head zero text front back rest split colon h next =
    one (record {
      front = front;
      back = back;
      split = split;
      first = h;
      second = record { back = rest; split = colon; second = next };
    })
next_head (suc n) text front back rest split colon h next =
    record {
      front = front;
      back = back;
      split = split;
      first = h;
      second = record { back = rest; split = colon; second = next };
    }

last_head : (text : List ℕ) → IsGroup text → HeadGroups 0 text
unfolding HeadGroups
last_head text h = h

dotted_head : (text : List ℕ) → Octets 3 text → HeadGroups 1 text
unfolding HeadGroups
dotted_head text h = other h

head_of : (n : ℕ) (text : List ℕ) (s : ℕ) (segments : List ℕ) → IsGroups true text (s ∷ segments) → length segments ≡ n
    → HeadGroups n text
head_of zero text s [] (inl h) many =
    last_head text (subst IsGroup (sym (append-nil h.0) ∙ ap (λ t. h.0 ++ t) (sym h.4) ∙ sym h.2) (group_of h.0 s h.3))
head_of (suc n) text s [] (inl h) many = absurd (omega (arith, many))
head_of zero text s (t ∷ segments) (inl h) many = absurd (omega (arith, many))
head_of (suc n) text s (t ∷ segments) (inl h) many =
    let (rest, colon, later) = unshift true h.1 t segments h.4 in
    next_head n text h.0 h.1 rest h.2 colon (group_of h.0 s h.3)
    (other (head_of n rest t segments later (omega (arith, many))))
head_of zero text s segments (inr h) many = absurd (omega (arith, many, two_segments h.0 h.1 s segments h.4 h.5))
head_of (suc zero) text s segments (inr h) many =
    dotted_head text (subst (Octets 3) (sym h.3) (octets_of_dotted h.0 h.1 h.4))
head_of (suc (suc n)) text s segments (inr h) many =
    absurd (omega (arith, many, two_segments h.0 h.1 s segments h.4 h.5))

elided_of : (n : ℕ) (text : List ℕ) (s : ℕ) (segments tail_text tail : List ℕ) → IsGroups false text (s ∷ segments)
    → IsGroups true tail_text tail
    → length segments + length tail < n → HeadGroups n (text ++ 58 ∷ 58 ∷ tail_text)
elided_of zero text s segments tail_text tail h k room = absurd (omega arith)
elided_of n text s segments tail_text tail (inr h) k room = absurd (true≢false (sym h.2))
elided_of (suc n) text s [] tail_text tail (inl h) k room =
    let group : text ≡ h.0 = h.2 ∙ ap (λ t. h.0 ++ t) h.4 ∙ append-nil h.0 in
    next_head n (text ++ 58 ∷ 58 ∷ tail_text) text (58 ∷ 58 ∷ tail_text) (58 ∷ tail_text) refl
    refl (subst IsGroup (sym group) (group_of h.0 s h.3))
    (one (record { back = tail_text; split = refl; second = up_to_of n tail_text tail k (omega arith) }))
elided_of (suc n) text s (t ∷ segments) tail_text tail (inl h) k room =
    let (rest, colon, later) = unshift false h.1 t segments h.4 in
    let split : text ++ 58 ∷ 58 ∷ tail_text ≡ h.0 ++ 58 ∷ (rest ++ 58 ∷ 58 ∷ tail_text) =
    ap (λ t. t ++ 58 ∷ 58 ∷ tail_text) (h.2 ∙ ap (λ t. h.0 ++ t) colon)
    ∙ append_assoc h.0 (58 ∷ rest) (58 ∷ 58 ∷ tail_text) in
    next_head n (text ++ 58 ∷ 58 ∷ tail_text) h.0 (58 ∷ (rest ++ 58 ∷ 58 ∷ tail_text)) (rest ++ 58 ∷ 58 ∷ tail_text)
    split refl (group_of h.0 s h.3)
    (other (elided_of n rest t segments tail_text tail later k (omega arith)))

colon_hex_elided : (text head_text tail_text head tail : List ℕ) → text ≡ head_text ++ 58 ∷ 58 ∷ tail_text
    → IsGroups false head_text head
    → IsGroups true tail_text tail → length head + length tail < 8 → ColonHex text
unfolding ColonHex
colon_hex_elided text head_text tail_text [] tail split h k room =
    one (record {
      back = 58 ∷ tail_text;
      split = split ∙ ap (λ t. t ++ 58 ∷ 58 ∷ tail_text) h;
      second = record { back = tail_text; split = refl; second = up_to_of 7 tail_text tail k (omega arith) };
    })
colon_hex_elided text head_text tail_text (s ∷ segments) tail split h k room =
    other (subst (HeadGroups 7) (sym split) (elided_of 7 head_text s segments tail_text tail h k (omega arith)))

colon_hex_full : (text segments : List ℕ) → IsGroups true text segments → length segments ≡ 8 → ColonHex text
unfolding ColonHex
colon_hex_full text [] h many = absurd (omega (arith, many))
colon_hex_full text (s ∷ segments) h many = other (head_of 7 text s segments h (omega (arith, many)))

colon_hex_of : (text segments : List ℕ) → IsColonHex text segments → ColonHex text
colon_hex_of text segments (inl h) = colon_hex_full text segments h.0 h.1
colon_hex_of text segments (inr h) =
    colon_hex_elided text h.head_text h.tail_text h.head h.tail (h.spelled
    ∙ append_assoc h.head_text (58 ∷ 58 ∷ []) h.tail_text)
    h.head_groups h.tail_groups h.room

-- the texts of addresses, either way
pub address_of : (text : List ℕ) (addr : Addr) → IsAddrText text addr → Address text
unfolding Address
address_of text (V4 number) h = other (octets_of_dotted text h.0 h.1)
address_of text (V6 number) h = one (colon_hex_of text h.0 h.1)

pub addr_of : (text : List ℕ) → Address text → IsAnyAddr text
unfolding Address
addr_of text (one h) =
    let (segments, whole) = colon_hex_whole text h in
    (V6 (number_after 65536 0 segments), (segments, whole, refl))
addr_of text (other h) =
    let (octets, whole) = dotted_of_octets text h in
    (V4 (number_after 256 0 octets), (octets, whole, refl))

-- a longest front in a language is one in each language of the same texts
pub IsLongestFront-same : (L M : List ℕ → Type 0) → ((text : List ℕ) → L text → M text)
    → ((text : List ℕ) → M text → L text) → (text : List ℕ) (n : ℕ)
    → IsLongestFront L text n → IsLongestFront M text n
IsLongestFront-same L M to from text n h = record {
  within = h.within;
  begins = (h.begins.0, to _ h.begins.1);
  longest = λ m within begins. h.longest m within (begins.0, from _ begins.1);
}

pub IsLongestFront-IsAnyAddr : (text : List ℕ) (n : ℕ) → IsLongestFront Address text n → IsLongestFront IsAnyAddr text n
IsLongestFront-IsAnyAddr text n h =
    IsLongestFront-same Address IsAnyAddr addr_of (λ text any. address_of text any.0 any.1) text n h
