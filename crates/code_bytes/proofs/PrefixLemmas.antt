-- A prefix: its family, its address, its length.
use Rattle.std.proofs.Common.{◌≡◌, ℕ, suc, ◌+◌, ◌*◌, ◌/◌, ◌%◌, ◌^◌, ◌<◌, ◌≤◌, List, [], ◌∷◌, ◌++◌, length, refl, sym}
use Rattle.std.proofs.Common.{ap, subst, ◌∙◌, append_assoc, arith}
use Rattle.std.proofs.lemmas.Nat.{shr_high, mod_low, shr_split, mod_below, pow_pos, from_be_bytes-to_be_bytes_4}
use Rattle.std.proofs.lemmas.Nat.{from_be_bytes-to_be_bytes_8, shr_below}
use Rattle.std.specs.Int.{w32, w64, from_be_bytes}
use Rattle.alto_addr.specs.declared.addr.Addr.{Addr}
use Rattle.alto_addr.specs.declared.addr.Addr.TheVariants.{V4, V6}
use Rattle.alto_addr.specs.Bits.{HasBits, IsPrefix, width_of}
use Rattle.alto_addr.specs.Order.{family_of}
use Rattle.code_bytes.specs.declared.stop.Stop.{Stop}
use Rattle.code_bytes.specs.Stuck.{IsStuck, Stops, Chain, Headed}
use Rattle.code_bytes.specs.Pieces.{number, address, Numbers, Prefixes, PrefixesOf, LengthsOf}
use Rattle.code_bytes.proofs.StuckLemmas.{IsFree, first_stops, headed_bad, headed_none, headed_on_stops, next_stops}
use Rattle.code_bytes.proofs.StuckLemmas.{stuck_same, stops_same}
use Rattle.code_bytes.proofs.FixedLemmas.{free_by_length}

-- ---- lengths

abbrev Ends : Addr → ℕ → List ℕ → Type 0
Ends addr len back = IsPrefix addr len × (back ≡ [])

to_ends : (addr : Addr) (text : List ℕ) → LengthsOf addr text → Headed (Ends addr) text
to_ends addr text is = record { byte = is.len; back = []; split = is.spelled; second = (is.is_prefix, refl) }

from_ends : (addr : Addr) (text : List ℕ) → Headed (Ends addr) text → LengthsOf addr text
from_ends addr text is = record {
  len = is.byte;
  is_prefix = is.second.0;
  spelled = is.split
      ∙ ap (λ t. is.byte ∷ t) is.second.1;
}

whole_length : (addr : Addr) → IsPrefix addr (width_of addr)
whole_length (V4 n) = (omega arith, omega arith)
whole_length (V6 n) = (omega arith, omega arith)

some_length : (addr : Addr) → (text : List ℕ) × LengthsOf addr text
some_length addr = (width_of addr ∷ [], record { len = width_of addr; is_prefix = whole_length addr; spelled = refl })

pub length_none : (addr : Addr) (bytes : List ℕ) → bytes ≡ [] → IsStuck (LengthsOf addr) bytes 0
length_none addr bytes nil =
    let some = some_length addr in
    subst (λ b. IsStuck (LengthsOf addr) b 0) (sym nil)
    (stuck_same _ _ [] 0 (from_ends addr) (to_ends addr) (headed_none (Ends addr) some.0 (to_ends addr some.0 some.1)))

pub length_bad : (addr : Addr) (len : ℕ) (bytes rest : List ℕ) → bytes ≡ len ∷ rest → (IsPrefix addr len → ⊥)
    → IsStuck (LengthsOf addr) bytes (length bytes)
length_bad addr len bytes rest head not =
    let some = some_length addr in
    subst (λ b. IsStuck (LengthsOf addr) b (length b)) (sym head)
    (stuck_same _ _ (len ∷ rest) (suc (length rest)) (from_ends addr) (to_ends addr)
    (headed_bad (Ends addr) some.0 len rest (to_ends addr some.0 some.1) (λ back is. not is.0)))

-- ---- numbers of so many bytes are one where their bytes are

abbrev most4 : ℕ
most4 = 0xffffffff

abbrev most8 : ℕ
most8 = 0xffffffffffffffff

once4 : (n m : ℕ) → n ≤ most4 → m ≤ most4 → number 4 n ≡ number 4 m → n ≡ m
once4 n m small less e =
    sym (from_be_bytes-to_be_bytes_4 n (omega (arith, small))) ∙ ap (from_be_bytes w32) e
    ∙ from_be_bytes-to_be_bytes_4 m (omega (arith, less))

pub once8 : (n m : ℕ) → n ≤ most8 → m ≤ most8 → number 8 n ≡ number 8 m → n ≡ m
once8 n m small less e =
    sym (from_be_bytes-to_be_bytes_8 n (omega (arith, small))) ∙ ap (from_be_bytes w64) e
    ∙ from_be_bytes-to_be_bytes_8 m (omega (arith, less))

numbers4_free : IsFree (Numbers 4 0 most4)
numbers4_free = free_by_length (Numbers 4 0 most4) 4 (λ text is. ap length is.spelled)

numbers8_free : IsFree (Numbers 8 0 most8)
numbers8_free = free_by_length (Numbers 8 0 most8) 8 (λ text is. ap length is.spelled)

-- ---- IPv4

abbrev After4 : List ℕ → List ℕ → Type 0
After4 front back = (n : ℕ) × (n ≤ most4) × (front ≡ number 4 n) × LengthsOf (V4 n) back

split4 : (addr : Addr) (len : ℕ) (text : List ℕ) → IsPrefix addr len → HasBits addr → 4 ≡ family_of addr
    → text ≡ address addr ++ (len ∷ [])
    → Chain (Numbers 4 0 most4) After4 text
split4 (V4 n) len text is_prefix bits family e = record {
  front = number 4 n;
  back = len ∷ [];
  split = e;
  first = record { value = n; above = omega arith; below = omega (arith, bits); spelled = refl };
  second = (n, omega (arith, bits), refl, record { len = len; is_prefix = is_prefix; spelled = refl });
}
split4 (V6 n) len text is_prefix bits family e = absurd cc

to4 : (text : List ℕ) → PrefixesOf 4 text → Chain (Numbers 4 0 most4) After4 text
to4 text is = split4 is.value.addr is.value.len text is.value.is_prefix is.has_bits is.is_of is.spelled

from4 : (text : List ℕ) → Chain (Numbers 4 0 most4) After4 text → PrefixesOf 4 text
from4 text is =
    let its = is.second.3 in
    record {
      value = record { addr = V4 is.second.0; len = its.len; is_prefix = its.is_prefix };
      has_bits = omega (arith, is.second.1);
      is_of = refl;
      spelled = is.split ∙ ap (λ t. t ++ is.back) is.second.2 ∙ ap (λ t. number 4 is.second.0 ++ t) its.spelled;
    }

some_after4 : (front : List ℕ) → Numbers 4 0 most4 front → (back : List ℕ) × After4 front back
some_after4 front is = let some = some_length (V4 is.value) in (some.0, (is.value, is.below, is.spelled, some.1))

pub first4 : (bytes : List ℕ) (why : Stop) → Stops (Numbers 4 0 most4) bytes why → Stops (PrefixesOf 4) bytes why
first4 bytes why s = stops_same (Chain (Numbers 4 0 most4) After4) (PrefixesOf 4) bytes why from4
    to4 (first_stops (Numbers 4 0 most4) After4 bytes why some_after4 s)

pub next4 : (n : ℕ) (bytes rest : List ℕ) (why : Stop) → n ≤ most4 → bytes ≡ number 4 n ++ rest
    → Stops (LengthsOf (V4 n)) rest why → Stops (PrefixesOf 4) bytes why
next4 n bytes rest why small e s =
    stops_same (Chain (Numbers 4 0 most4) After4) (PrefixesOf 4) bytes why from4 to4
    (next_stops (Numbers 4 0 most4) After4 bytes (number 4 n) rest why numbers4_free
    (record { value = n; above = omega arith; below = small; spelled = refl }) e
    (stops_same (LengthsOf (V4 n)) (After4 (number 4 n)) rest why (λ text is. (n, small, refl, is))
    (λ text is. subst (λ m. LengthsOf (V4 m) text) (sym (once4 n is.0 small is.1 is.2)) is.3) s))

-- ---- IPv6

abbrev After8 : List ℕ → List ℕ → List ℕ → Type 0
After8 high low back = (n : ℕ) × (n < 2 ^ 128) × (high ≡ number 8 (n / 2 ^ 64)) × (low ≡ number 8 (n % 2 ^ 64))
    × LengthsOf (V6 n) back

abbrev Low : List ℕ → List ℕ → Type 0
Low high tail = Chain (Numbers 8 0 most8) (After8 high) tail

abbrev Six : List ℕ → Type 0
Six text = Chain (Numbers 8 0 most8) Low text

high_fits : (n : ℕ) → n < 2 ^ 128 → n / 2 ^ 64 ≤ most8
high_fits n small = omega (arith, shr_below n 64 64 small)

low_fits : (n : ℕ) → n % 2 ^ 64 ≤ most8
low_fits n = omega (arith, mod_below n (2 ^ 64) (pow_pos 64))

split6 : (addr : Addr) (len : ℕ) (text : List ℕ) → IsPrefix addr len → HasBits addr → 6 ≡ family_of addr
    → text ≡ address addr ++ (len ∷ []) → Six text
split6 (V4 n) len text is_prefix bits family e = absurd cc
split6 (V6 n) len text is_prefix bits family e = record {
  front = number 8 (n / 2 ^ 64);
  back = number 8 (n % 2 ^ 64) ++ (len ∷ []);
  split = e ∙ append_assoc (number 8 (n / 2 ^ 64)) (number 8 (n % 2 ^ 64)) (len ∷ []);
  first = record { value = n / 2 ^ 64; above = omega arith; below = high_fits n bits; spelled = refl };
  second = record {
    front = number 8 (n % 2 ^ 64);
    back = len ∷ [];
    split = refl;
    first = record { value = n % 2 ^ 64; above = omega arith; below = low_fits n; spelled = refl };
    second = (n, bits, refl, refl, record { len = len; is_prefix = is_prefix; spelled = refl });
  };
}

to6 : (text : List ℕ) → PrefixesOf 6 text → Six text
to6 text is = split6 is.value.addr is.value.len text is.value.is_prefix is.has_bits is.is_of is.spelled

from6 : (text : List ℕ) → Six text → PrefixesOf 6 text
from6 text is =
    let its = is.second.second in
    let n = its.0 in
    let ends = its.4 in
    record {
      value = record { addr = V6 n; len = ends.len; is_prefix = ends.is_prefix };
      has_bits = its.1;
      is_of = refl;
      spelled = is.split ∙ ap (λ t. t ++ is.back) its.2 ∙ ap (λ t. number 8 (n / 2 ^ 64) ++ t) is.second.split
          ∙ ap (λ t. number 8 (n / 2 ^ 64) ++ (t ++ is.second.back)) its.3
          ∙ ap (λ t. number 8 (n / 2 ^ 64) ++ (number 8 (n % 2 ^ 64) ++ t)) ends.spelled
          ∙ sym (append_assoc (number 8 (n / 2 ^ 64)) (number 8 (n % 2 ^ 64)) (ends.len ∷ []));
    }

abbrev joined : ℕ → ℕ → ℕ
joined high low = high * 2 ^ 64 + low

joined_fits : (high low : ℕ) → high ≤ most8 → low ≤ most8 → joined high low < 2 ^ 128
joined_fits high low h l = omega (arith, h, l)

joined_high : (high low : ℕ) → low ≤ most8 → joined high low / 2 ^ 64 ≡ high
joined_high high low l = shr_high high 64 low (omega (arith, l))

joined_low : (high low : ℕ) → low ≤ most8 → joined high low % 2 ^ 64 ≡ low
joined_low high low l = mod_low high 64 low (omega (arith, l))

some_after8 : (high_text : List ℕ) (high : ℕ) → high ≤ most8 → high_text ≡ number 8 high → (low_text : List ℕ)
    → Numbers 8 0 most8 low_text
    → (back : List ℕ) × After8 high_text low_text back
some_after8 high_text high h spelled low_text low =
    let n = joined high low.value in
    let some = some_length (V6 n) in (
      some.0,
      (
        n,
        joined_fits high low.value h low.below,
        spelled ∙ ap (number 8) (sym (joined_high high low.value low.below)),
        low.spelled ∙ ap (number 8) (sym (joined_low high low.value low.below)),
        some.1,
      ),
    )

some_low : (high_text : List ℕ) → Numbers 8 0 most8 high_text → (tail : List ℕ) × Low high_text tail
some_low high_text is =
    let zero_low : Numbers 8 0 most8 (number 8 0) =
    record { value = 0; above = omega arith; below = omega arith; spelled = refl } in
    let some = some_after8 high_text is.value is.below is.spelled (number 8 0) zero_low in (
      number 8 0 ++ some.0,
      record {
        front = number 8 0;
        back = some.0;
        split = refl;
        first = zero_low;
        second = some.1;
      },
    )

pub first6 : (bytes : List ℕ) (why : Stop) → Stops (Numbers 8 0 most8) bytes why → Stops (PrefixesOf 6) bytes why
first6 bytes why s = stops_same Six (PrefixesOf 6) bytes why from6
    to6 (first_stops (Numbers 8 0 most8) Low bytes why some_low s)

is_number8 : (n : ℕ) → n ≤ most8 → Numbers 8 0 most8 (number 8 n)
is_number8 n small = record { value = n; above = omega arith; below = small; spelled = refl }

pub second6 : (high : ℕ) (bytes rest : List ℕ) (why : Stop) → high ≤ most8 → bytes ≡ number 8 high ++ rest
    → Stops (Numbers 8 0 most8) rest why
    → Stops (PrefixesOf 6) bytes why
second6 high bytes rest why h e s =
    stops_same Six (PrefixesOf 6) bytes why from6 to6
    (next_stops (Numbers 8 0 most8) Low bytes (number 8 high) rest why numbers8_free (is_number8 high h) e
    (first_stops (Numbers 8 0 most8) (After8 (number 8 high)) rest why (some_after8 (number 8 high) high h refl) s))

same_joined : (high low n : ℕ) → high ≤ most8 → low ≤ most8 → n < 2 ^ 128 → number 8 high ≡ number 8 (n / 2 ^ 64)
    → number 8 low ≡ number 8 (n % 2 ^ 64)
    → n ≡ joined high low
same_joined high low n h l small eh el =
    let one : high ≡ n / 2 ^ 64 = once8 high (n / 2 ^ 64) h (high_fits n small) eh in
    let other : low ≡ n % 2 ^ 64 = once8 low (n % 2 ^ 64) l (low_fits n) el in
    omega (arith, shr_split n 64, one, other)

pub third6 : (high low : ℕ) (bytes rest after : List ℕ) (why : Stop) → high ≤ most8 → low ≤ most8
    → bytes ≡ number 8 high ++ rest → rest ≡ number 8 low ++ after
    → Stops (LengthsOf (V6 (joined high low))) after why → Stops (PrefixesOf 6) bytes why
third6 high low bytes rest after why h l e e2 s =
    let n = joined high low in
    stops_same Six (PrefixesOf 6) bytes why from6 to6
    (next_stops (Numbers 8 0 most8) Low bytes (number 8 high) rest why numbers8_free (is_number8 high h) e
    (next_stops (Numbers 8 0 most8) (After8 (number 8 high)) rest (number 8 low) after why numbers8_free
    (is_number8 low l) e2
    (stops_same (LengthsOf (V6 n)) (After8 (number 8 high) (number 8 low)) after why
    (λ text is. (
      n,
      joined_fits high low h l,
      ap (number 8) (sym (joined_high high low l)),
      ap (number 8) (sym (joined_low high low l)),
      is,
    ))
    (λ text is. subst (λ m. LengthsOf (V6 m) text) (same_joined high low is.0 h l is.1 is.2 is.3) is.4) s)))

pub read6 : (high low len : ℕ) (addr : Addr) (bytes rest after last : List ℕ) → high ≤ most8 → low ≤ most8
    → bytes ≡ number 8 high ++ rest → rest ≡ number 8 low ++ after
    → after ≡ len ∷ last → addr ≡ V6 (joined high low)
    → HasBits addr × (6 ∷ bytes ≡ family_of addr ∷ (address addr ++ (len ∷ [])) ++ last)
read6 high low len addr bytes rest after last h l e e2 e3 at =
    subst (λ a. HasBits a × (6 ∷ bytes ≡ family_of a ∷ (address a ++ (len ∷ [])) ++ last)) (sym at) (
      joined_fits high low h l,
      ap (λ t. 6 ∷ t) (e ∙ ap (λ t. number 8 high ++ t) (e2 ∙ ap (λ t. number 8 low ++ t) e3)
          ∙ ap (λ m. number 8 m ++ (number 8 low ++ len ∷ last)) (sym (joined_high high low l))
          ∙ ap (λ m. number 8 (joined high low / 2 ^ 64) ++ (number 8 m ++ len ∷ last)) (sym (joined_low high low l))),
    )

-- ---- the family

pub to_family : (text : List ℕ) → Prefixes text → Headed PrefixesOf text
to_family text is = record {
  byte = family_of is.value.addr;
  back = address is.value.addr ++ (is.value.len ∷ []);
  split = is.spelled;
  second = record { value = is.value; has_bits = is.has_bits; is_of = refl; spelled = refl };
}

pub from_family : (text : List ℕ) → Headed PrefixesOf text → Prefixes text
from_family text is =
    let its = is.second in
    record {
      value = its.value;
      has_bits = its.has_bits;
      spelled = is.split ∙ ap (λ b. b ∷ is.back) its.is_of ∙ ap (λ t. family_of its.value.addr ∷ t) its.spelled;
    }

pub some_prefix : (text : List ℕ) × Prefixes text
some_prefix = (
  4 ∷ (number 4 0 ++ (32 ∷ [])),
  record {
    value = record { addr = V4 0; len = 32; is_prefix = whole_length (V4 0) };
    has_bits = omega arith;
    spelled = refl;
  },
)

no_family : (byte : ℕ) (addr : Addr) → byte ≡ family_of addr → (byte ≡ 4 → ⊥) → (byte ≡ 6 → ⊥) → ⊥
no_family byte (V4 n) e not4 not6 = not4 e
no_family byte (V6 n) e not4 not6 = not6 e

pub family_none : (bytes : List ℕ) → bytes ≡ [] → IsStuck Prefixes bytes 0
family_none bytes nil =
    subst (λ b. IsStuck Prefixes b 0) (sym nil)
    (stuck_same _ _ [] 0 from_family
    to_family (headed_none PrefixesOf some_prefix.0 (to_family some_prefix.0 some_prefix.1)))

pub family_bad : (byte : ℕ) (bytes rest : List ℕ) → bytes ≡ byte ∷ rest → (byte ≡ 4 → ⊥) → (byte ≡ 6 → ⊥)
    → IsStuck Prefixes bytes (length bytes)
family_bad byte bytes rest head not4 not6 =
    subst (λ b. IsStuck Prefixes b (length b)) (sym head)
    (stuck_same _ _ (byte ∷ rest) (suc (length rest)) from_family to_family
    (headed_bad PrefixesOf some_prefix.0 byte rest (to_family some_prefix.0 some_prefix.1)
    (λ back is. no_family byte is.value.addr is.is_of not4 not6)))

pub family_on : (byte : ℕ) (bytes rest : List ℕ) (why : Stop) → bytes ≡ byte ∷ rest → Stops (PrefixesOf byte) rest why
    → Stops Prefixes bytes why
family_on byte bytes rest why head s =
    subst (λ b. Stops Prefixes b why) (sym head)
    (stops_same (Headed PrefixesOf) Prefixes (byte ∷ rest) why from_family
    to_family (headed_on_stops PrefixesOf byte rest why s))
