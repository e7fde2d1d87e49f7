-- The grammar from the left and that of whole texts are one.
use Rattle.std.proofs.Common.{◌≡◌, ℕ, zero, suc, ◌+◌, ◌-◌, ◌*◌, ◌<◌, ◌≤◌, ◌⊎◌, Bool, true, false, List, [], ◌∷◌, ◌++◌}
use Rattle.std.proofs.Common.{length, replicate, decimal, refl, sym, ap, ◌∙◌, subst, inl, inr, arith, append_assoc}
use Rattle.std.proofs.Common.{append-nil}
use Rattle.std.specs.Str.Parse.{digits_value}
use Rattle.std.specs.Net.Addr.{segments_of}
use Rattle.std.specs.Net.Text.{dotted_text}
use Rattle.std.specs.Net.Grammar.{IsDotted, IsGroupsAfter, IsGroups, IsElided, IsColonHex}
use Rattle.std.specs.Net.Grammar as Std
use Rattle.alto_addr.specs.Languages.{Behind, Either, one, other, Nothing}
use Rattle.alto_addr.specs.Tokens.{IsOctet, IsGroup}
use Rattle.alto_addr.specs.Fronts.{Octets, TailGroups, TailUpTo, HeadGroups, ColonHex}

-- four numbers with dots
pub dotted_of_octets : (text : List ℕ) → Octets 3 text → (octets : List ℕ) × IsDotted text octets
unfolding Octets
dotted_of_octets text h =
    let h₂ = h.second.second in
    let h₃ = h₂.second.second in
    let h₄ = h₃.second.second in (
      h.first.value ∷ h₂.first.value ∷ h₃.first.value ∷ h₄.value ∷ [],
      record {
        a = h.first.value;
        b = h₂.first.value;
        c = h₃.first.value;
        d = h₄.value;
        fit = (h.first.fits, h₂.first.fits, h₃.first.fits, h₄.fits);
        value = refl;
        spelled = rw (
          h.split,
          h.first.spelled,
          h.second.split,
          h₂.split,
          h₂.first.spelled,
          h₂.second.split,
          h₃.split,
          h₃.first.spelled,
          h₃.second.split,
          h₄.spelled,
        ) (sym (simp append_assoc));
      },
    )

octet : (value : ℕ) → value < 256 → IsOctet (decimal value)
octet value fits = record { value = value; fits = fits; spelled = refl }

more_octets : (n value : ℕ) (rest : List ℕ) → value < 256 → Octets n rest → Octets (suc n) (decimal value ++ 46 ∷ rest)
unfolding Octets
more_octets n value rest fits h =
    record {
      front = decimal value;
      back = 46 ∷ rest;
      split = refl;
      first = octet value fits;
      second = record { back = rest; split = refl; second = h };
    }

last_octet : (value : ℕ) → value < 256 → Octets 0 (decimal value)
unfolding Octets
last_octet value fits = octet value fits

pub octets_of_dotted : (text octets : List ℕ) → IsDotted text octets → Octets 3 text
octets_of_dotted text octets h =
    let all = more_octets 2 h.a _ h.fit.0
    (more_octets 1 h.b _ h.fit.1 (more_octets 0 h.c _ h.fit.2 (last_octet h.d h.fit.3))) in
    let shown : decimal h.a ++ 46 ∷ (decimal h.b ++ 46 ∷ (decimal h.c ++ 46 ∷ decimal h.d))
    ≡ dotted_text h.a h.b h.c h.d = sym (simp append_assoc) in
    subst (Octets 3) (shown ∙ sym h.spelled) all

-- the lead of groups
shift : (ipv4 : Bool) (text : List ℕ) (s : ℕ) (segments : List ℕ) → IsGroupsAfter ipv4 [] text (s ∷ segments)
    → IsGroupsAfter ipv4 (58 ∷ []) (58 ∷ text) (s ∷ segments)
shift ipv4 text s segments (inl h) = inl (h.0, h.1, ap (λ t. 58 ∷ t) h.2, h.3, h.4)
shift ipv4 text s segments (inr h) = inr (h.0, h.1, h.2, ap (λ t. 58 ∷ t) h.3, h.4, h.5)

pub unshift : (ipv4 : Bool) (text : List ℕ) (s : ℕ) (segments : List ℕ)
    → IsGroupsAfter ipv4 (58 ∷ []) text (s ∷ segments)
    → (rest : List ℕ) × (text ≡ 58 ∷ rest) × IsGroupsAfter ipv4 [] rest (s ∷ segments)
unshift ipv4 text s segments (inl h) = (h.0 ++ h.1, h.2, inl (h.0, h.1, refl, h.3, h.4))
unshift ipv4 text s segments (inr h) = (h.0, h.3, inr (h.0, h.1, h.2, refl, h.4, h.5))

pub group_of : (text : List ℕ) (s : ℕ) → Std.IsGroup text s → IsGroup text
group_of text s h = record { digits = h.0.0; short = h.1 }

segment_of : (text : List ℕ) → IsGroup text → Std.IsGroup text (digits_value 16 text)
segment_of text h = ((h.digits, refl), h.short)

pub two_segments : (last octets : List ℕ) (s : ℕ) (segments : List ℕ) → IsDotted last octets
    → s ∷ segments ≡ segments_of octets → length segments ≡ 1
two_segments last octets s segments h e =
    let all : length (s ∷ segments) ≡ 2 = ap length e ∙ ap (λ o. length (segments_of o)) h.value in
    omega arith

one_group : (ipv4 : Bool) (text : List ℕ) → IsGroup text → IsGroups ipv4 text (digits_value 16 text ∷ [])
one_group ipv4 text h = inl (text, [], sym (append-nil text), segment_of text h, refl)

more_groups : (ipv4 : Bool) (front back : List ℕ) (s : ℕ) (segments : List ℕ) → IsGroup front
    → IsGroups ipv4 back (s ∷ segments)
    → IsGroups ipv4 (front ++ 58 ∷ back) (digits_value 16 front ∷ s ∷ segments)
more_groups ipv4 front back s segments h k =
    inl (front, 58 ∷ back, refl, segment_of front h, shift ipv4 back s segments k)

-- an IPv4 text as two groups
record TwoGroups (text : List ℕ) : Type 0 where
  high : ℕ
  low : ℕ
  groups : IsGroups true text (high ∷ low ∷ [])

two_groups : (text : List ℕ) → Octets 3 text → TwoGroups text
two_groups text h =
    let (octets, dotted) = dotted_of_octets text h in
    record {
      high = dotted.a * 256 + dotted.b;
      low = dotted.c * 256 + dotted.d;
      groups = inr (text, octets, refl, refl, dotted, sym (ap segments_of dotted.value));
    }

-- groups behind `::`
record TailIs (n : ℕ) (text : List ℕ) : Type 0 where
  first : ℕ
  later : List ℕ
  groups : IsGroups true text (first ∷ later)
  few : length later ≤ n

-- a group alone, and a group before others
one_tail : (n : ℕ) (text front back : List ℕ) → text ≡ front ++ back → back ≡ [] → IsGroup front → TailIs n text
one_tail n text front back split none h = record {
  first = digits_value 16 front;
  later = [];
  groups = subst (λ t. IsGroups true t (digits_value 16 front ∷ []))
      (sym (split ∙ ap (λ t. front ++ t) none ∙ append-nil front)) (one_group true front h);
  few = omega arith;
}

more_tail : (n : ℕ) (text front back rest : List ℕ) → text ≡ front ++ back → back ≡ 58 ∷ rest → IsGroup front
    → TailIs n rest → TailIs (suc n) text
more_tail n text front back rest split colon h tail = record {
  first = digits_value 16 front;
  later = tail.first ∷ tail.later;
  groups = subst (λ t. IsGroups true t (digits_value 16 front ∷ tail.first ∷ tail.later))
      (sym (split ∙ ap (λ t. front ++ t) colon))
      (more_groups true front rest tail.first tail.later h tail.groups);
  few = omega (arith, tail.few);
}

tail_step : (n : ℕ) → ((text : List ℕ) → TailGroups n text → TailIs n text) → (text front back : List ℕ)
    → text ≡ front ++ back → IsGroup front
    → Either Nothing (Behind 58 (TailGroups n)) back → TailIs (suc n) text
tail_step n later text front back split h (one none) = one_tail (suc n) text front back split none.nothing h
tail_step n later text front back split h (other behind) =
    more_tail n text front back behind.back split behind.split h (later behind.back behind.second)

tail_groups : (n : ℕ) (text : List ℕ) → TailGroups n text → TailIs n text
unfolding TailGroups
tail_groups zero text h = record {
  first = digits_value 16 text;
  later = [];
  groups = one_group true text h;
  few = omega arith;
}
tail_groups (suc n) text (other h) =
    let two = two_groups text h in
    record { first = two.high; later = two.low ∷ []; groups = two.groups; few = omega arith }
tail_groups (suc n) text (one h) = tail_step n (λ t. tail_groups n t) text h.front h.back h.split h.first h.second

record UpToIs (n : ℕ) (text : List ℕ) : Type 0 where
  all : List ℕ
  groups : IsGroups true text all
  few : length all ≤ n

up_to_groups : (n : ℕ) (text : List ℕ) → TailUpTo n text → UpToIs n text
unfolding TailUpTo
up_to_groups zero text h = record { all = []; groups = h.nothing; few = omega arith }
up_to_groups (suc n) text (one h) = record { all = []; groups = h.nothing; few = omega arith }
up_to_groups (suc n) text (other h) =
    let tail = tail_groups n text h in
    record { all = tail.first ∷ tail.later; groups = tail.groups; few = omega (arith, tail.few) }

-- a head of groups: as many as there can be, or fewer and `::`
record HeadIs (n : ℕ) (text : List ℕ) : Type 0 where
  first : ℕ
  later : List ℕ
  groups : IsGroups true text (first ∷ later)
  many : length later ≡ n

record ElidedIs (n : ℕ) (text : List ℕ) : Type 0 where
  head_text : List ℕ
  tail_text : List ℕ
  first : ℕ
  later : List ℕ
  tail : List ℕ
  split : text ≡ head_text ++ 58 ∷ 58 ∷ tail_text
  head_groups : IsGroups false head_text (first ∷ later)
  tail_groups : IsGroups true tail_text tail
  room : length later + length tail < n

elided_first : (n : ℕ) (text front back rest tail : List ℕ) → text ≡ front ++ back → back ≡ 58 ∷ rest → rest ≡ 58 ∷ tail
    → IsGroup front → UpToIs n tail
    → ElidedIs (suc n) text
elided_first n text front back rest tail split colon second h up_to = record {
  head_text = front;
  tail_text = tail;
  first = digits_value 16 front;
  later = [];
  tail = up_to.all;
  split = split ∙ ap (λ t. front ++ t) (colon ∙ ap (λ t. 58 ∷ t) second);
  head_groups = one_group false front h;
  tail_groups = up_to.groups;
  room = omega (arith, up_to.few);
}

head_more : (n : ℕ) (text front back rest : List ℕ) → text ≡ front ++ back → back ≡ 58 ∷ rest → IsGroup front
    → HeadIs n rest → HeadIs (suc n) text
head_more n text front back rest split colon h head = record {
  first = digits_value 16 front;
  later = head.first ∷ head.later;
  groups = subst (λ t. IsGroups true t (digits_value 16 front ∷ head.first ∷ head.later))
      (sym (split ∙ ap (λ t. front ++ t) colon))
      (more_groups true front rest head.first head.later h head.groups);
  many = omega (arith, head.many);
}

elided_more : (n : ℕ) (text front back rest : List ℕ) → text ≡ front ++ back → back ≡ 58 ∷ rest → IsGroup front
    → ElidedIs n rest → ElidedIs (suc n) text
elided_more n text front back rest split colon h elided = record {
  head_text = front ++ 58 ∷ elided.head_text;
  tail_text = elided.tail_text;
  first = digits_value 16 front;
  later = elided.first ∷ elided.later;
  tail = elided.tail;
  split = split ∙ ap (λ t. front ++ t) (colon ∙ ap (λ t. 58 ∷ t) elided.split)
      ∙ sym (append_assoc front (58 ∷ elided.head_text) (58 ∷ 58 ∷ elided.tail_text));
  head_groups = more_groups false front elided.head_text elided.first elided.later h elided.head_groups;
  tail_groups = elided.tail_groups;
  room = omega (arith, elided.room);
}

head_next : (n : ℕ) (text front back rest : List ℕ) → text ≡ front ++ back → back ≡ 58 ∷ rest → IsGroup front
    → HeadIs n rest ⊎ ElidedIs n rest
    → HeadIs (suc n) text ⊎ ElidedIs (suc n) text
head_next n text front back rest split colon h (inl head) = inl (head_more n text front back rest split colon h head)
head_next n text front back rest split colon h (inr elided) =
    inr (elided_more n text front back rest split colon h elided)

head_step : (n : ℕ) → ((text : List ℕ) → HeadGroups n text → HeadIs n text ⊎ ElidedIs n text)
    → (text front back rest : List ℕ) → text ≡ front ++ back
    → back ≡ 58 ∷ rest → IsGroup front → Either (Behind 58 (TailUpTo n)) (HeadGroups n) rest
    → HeadIs (suc n) text ⊎ ElidedIs (suc n) text
head_step n later text front back rest split colon h (one behind) =
    inr (elided_first n text front back rest behind.back split colon behind.split
    h (up_to_groups n behind.back behind.second))
head_step n later text front back rest split colon h (other next) =
    head_next n text front back rest split colon h (later rest next)

head_groups : (n : ℕ) (text : List ℕ) → HeadGroups n text → HeadIs n text ⊎ ElidedIs n text
unfolding HeadGroups
head_groups zero text h =
    inl (record { first = digits_value 16 text; later = []; groups = one_group true text h; many = refl })
head_groups (suc zero) text (other h) =
    let two = two_groups text h in
    inl (record { first = two.high; later = two.low ∷ []; groups = two.groups; many = refl })
head_groups (suc zero) text (one h) =
    head_step zero (λ t. head_groups zero t) text h.front h.back h.second.back h.split h.second.split
    h.first h.second.second
head_groups (suc (suc n)) text h =
    head_step (suc n) (λ t. head_groups (suc n) t) text h.front h.back h.second.back h.split h.second.split
    h.first h.second.second

-- as whole texts
pub colon_hex_whole : (text : List ℕ) → ColonHex text → (segments : List ℕ) × IsColonHex text segments
unfolding ColonHex
colon_hex_whole text (one h) =
    let up_to = up_to_groups 7 h.second.back h.second.second in (
      replicate (8 - 0 - length up_to.all) 0 ++ up_to.all,
      inr (record {
        head_text = [];
        tail_text = h.second.back;
        head = [];
        tail = up_to.all;
        spelled = h.split ∙ ap (λ t. 58 ∷ t) h.second.split;
        head_groups = refl;
        tail_groups = up_to.groups;
        room = omega (arith, up_to.few);
        value = refl;
      }),
    )
colon_hex_whole text (other h) = elim (head_groups 7 text h) [
  | inl head ↦ (head.first ∷ head.later, inl (head.groups, omega (arith, head.many)))
  | inr elided ↦ (
    _,
    inr (record {
      head_text = elided.head_text;
      tail_text = elided.tail_text;
      head = elided.first ∷ elided.later;
      tail = elided.tail;
      spelled = elided.split ∙ sym (append_assoc elided.head_text (58 ∷ 58 ∷ []) elided.tail_text);
      head_groups = elided.head_groups;
      tail_groups = elided.tail_groups;
      room = omega (arith, elided.room);
      value = refl;
    }),
  )
]
