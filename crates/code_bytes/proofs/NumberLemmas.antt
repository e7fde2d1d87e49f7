-- A number of a range byte by byte.
use Rattle.std.proofs.Common.{◌≡◌, ℕ, zero, suc, ◌+◌, ◌*◌, ◌/◌, ◌%◌, ◌^◌, ◌<◌, ◌≤◌, inl, inr, List, [], ◌∷◌, ◌++◌}
use Rattle.std.proofs.Common.{length, refl, sym, ap, subst, ◌∙◌, arith}
use Rattle.std.specs.Int.{byte_at}
use Rattle.std.proofs.lemmas.Bool.{cases_eq, cases_lt}
use Rattle.std.proofs.lemmas.Nat.{pow_pos, pow-add, shl-shr, shr-shr, shr_le, shr_split, div-add-mod', le-div}
use Rattle.std.proofs.lemmas.Nat.{div-mul-add, mod-mul-add, mod_below}
use Rattle.std.proofs.Math.Nat.{pow-suc, div-one, mul-le-mul_right, div-mul-le_self}
use Rattle.code_bytes.specs.declared.stop.Stop.{Stop}
use Rattle.code_bytes.specs.Stuck.{IsStuck, Stops, Headed}
use Rattle.code_bytes.specs.Pieces.{number, Numbers, NumbersFrom, Begins}
use Rattle.code_bytes.proofs.StuckLemmas.{headed_none, headed_bad, headed_on_stops, stuck_same, stops_same}

-- ---- the bytes of a number

power : (k : ℕ) → 256 ^ k ≡ 2 ^ (8 * k)
power zero = refl
power (suc k) =
    let next : 8 * suc k ≡ 8 * k + 8 = omega arith in
    pow-suc 256 k ∙ ap (λ x. x * 256) (power k) ∙ sym (pow-add 2 (8 * k) 8) ∙ ap (λ e. 2 ^ e) (sym next)

pub byte_is : (k n : ℕ) → byte_at k n ≡ n / 2 ^ (8 * k) % 256
byte_is zero n = ap (λ x. x % 256) (sym (div-one n))
byte_is (suc k) n = ap (λ p. n / p % 256) (power (suc k))

behind_byte : (k n : ℕ) → n / 2 ^ (8 * suc k) ≡ n / 2 ^ (8 * k) / 256
behind_byte k n =
    let next : 8 * suc k ≡ 8 * k + 8 = omega arith in
    ap (λ e. n / 2 ^ e) next ∙ sym (shr-shr n (8 * k) 8)

-- ---- the first byte, and those behind it

abbrev Rest : ℕ → ℕ → ℕ → ℕ → ℕ → List ℕ → Type 0
Rest count before least most byte back = (byte < 256) × NumbersFrom count (before * 256 + byte) least most back

uncons : (count before least most : ℕ) (text : List ℕ) → NumbersFrom (suc count) before least most text
    → Headed (Rest count before least most) text
uncons count before least most text is =
    let q = is.value / 2 ^ (8 * count) in
    let top : q / 256 ≡ before = sym (behind_byte count is.value) ∙ is.begins in
    let whole : q / 256 * 256 + q % 256 ≡ q = div-add-mod' q 256 in
    let low : byte_at count is.value ≡ q % 256 = byte_is count is.value in
    record {
      byte = byte_at count is.value;
      back = number count is.value;
      split = is.spelled;
      second = (
        omega (arith, low),
        record {
          value = is.value;
          above = is.above;
          below = is.below;
          begins = omega (arith, top, whole, low);
          spelled = refl;
        },
      );
    }

cons : (count before least most : ℕ) (text : List ℕ) → Headed (Rest count before least most) text
    → NumbersFrom (suc count) before least most text
cons count before least most text is =
    let its = is.second.1 in
    let q = its.value / 2 ^ (8 * count) in
    let low : byte_at count its.value ≡ is.byte =
    byte_is count its.value ∙ ap (λ x. x % 256) its.begins ∙ mod-mul-add before 256 is.byte is.second.0 in
    record {
      value = its.value;
      above = its.above;
      below = its.below;
      begins = behind_byte count its.value ∙ ap (λ x. x / 256) its.begins ∙ div-mul-add before 256 is.byte is.second.0;
      spelled = is.split ∙ ap (λ t. is.byte ∷ t) its.spelled ∙ ap (λ b. b ∷ number count its.value) (sym low);
    }

-- ---- whether some number of the range begins so

div_rises : (a b k : ℕ) → a ≤ b → a / 2 ^ k ≤ b / 2 ^ k
div_rises a b k le = le-div (a / 2 ^ k) b (2 ^ k) (pow_pos k) (omega (arith, div-mul-le_self a (2 ^ k)))

begins_if : (count before least most : ℕ) (text : List ℕ) → NumbersFrom count before least most text
    → Begins count before least most
begins_if count before least most text is = (
  omega (arith, is.begins, div_rises least is.value (8 * count) is.above),
  omega (arith, is.begins, div_rises is.value most (8 * count) is.below),
)

pub some_number : (count before least most : ℕ) → least ≤ most → Begins count before least most
    → (text : List ℕ) × NumbersFrom count before least most text
some_number count before least most le begins = elim (cases_eq (least / 2 ^ (8 * count)) before) [
  | inl same ↦ (
    number count least,
    record { value = least; above = omega arith; below = le; begins = same; spelled = refl },
  )
  | inr other ↦
      let p = 2 ^ (8 * count) in
      let n = before * p in
      let low : (least / p + 1) * p ≤ n = mul-le-mul_right p (omega (arith, begins.0, other)) in
      let split : least / p * p + least % p ≡ least = shr_split least (8 * count) in
      let part : least % p < p = mod_below least p (pow_pos (8 * count)) in
      let product : (least / p + 1) * p ≡ least / p * p + p = omega arith in
      let high : n ≤ most / p * p = mul-le-mul_right p begins.1 in (
        number count n,
        record {
          value = n;
          above = omega (arith, low, split, part, product);
          below = omega (arith, high, div-mul-le_self most p);
          begins = shl-shr before (8 * count);
          spelled = refl;
        },
      )
]

-- ---- where a reader stops

pub number_none : (count before least most : ℕ) → least ≤ most → Begins (suc count) before least most
    → IsStuck (NumbersFrom (suc count) before least most) [] 0
number_none count before least most le begins =
    let some = some_number (suc count) before least most le begins in
    stuck_same _ _ [] 0 (cons count before least most) (uncons count before least most)
    (headed_none (Rest count before least most) some.0 (uncons count before least most some.0 some.1))

pub number_bad : (count before least most byte : ℕ) (rest : List ℕ) → least ≤ most
    → Begins (suc count) before least most
    → (Begins count (before * 256 + byte) least most → ⊥)
    → IsStuck (NumbersFrom (suc count) before least most) (byte ∷ rest) (suc (length rest))
number_bad count before least most byte rest le begins not =
    let some = some_number (suc count) before least most le begins in
    stuck_same _ _ (byte ∷ rest) (suc (length rest)) (cons count before least most) (uncons count before least most)
    (headed_bad (Rest count before least most) some.0 byte rest (uncons count before least most some.0 some.1)
    (λ back its. not (begins_if count (before * 256 + byte) least most back its.1)))

pub number_on : (count before least most byte : ℕ) (rest : List ℕ) (why : Stop) → byte < 256
    → Stops (NumbersFrom count (before * 256 + byte) least most) rest why
    → Stops (NumbersFrom (suc count) before least most) (byte ∷ rest) why
number_on count before least most byte rest why small s =
    stops_same (Headed (Rest count before least most)) (NumbersFrom (suc count) before least most) (byte ∷ rest)
    why (cons count before least most) (uncons count before least most)
    (headed_on_stops (Rest count before least most) byte rest why
    (stops_same (NumbersFrom count (before * 256 + byte) least most) (Rest count before least most byte) rest
    why (λ text is. (small, is)) (λ text is. is.1) s))

-- ---- a number that was read

pub number_read : (count before value byte : ℕ) (bytes rest : List ℕ) → byte < 256
    → value / 2 ^ (8 * count) ≡ before * 256 + byte
    → bytes ≡ number count value ++ rest → byte ∷ bytes ≡ number (suc count) value ++ rest
number_read count before value byte bytes rest small begins e =
    let low : byte_at count value ≡ byte = byte_is count value ∙ ap (λ x. x % 256) begins
    ∙ mod-mul-add before 256 byte small in
    ap (λ t. byte ∷ t) e ∙ ap (λ b. b ∷ (number count value ++ rest)) (sym low)

pub begun : (count before value byte : ℕ) → byte < 256 → value / 2 ^ (8 * count) ≡ before * 256 + byte
    → value / 2 ^ (8 * suc count) ≡ before
begun count before value byte small begins = behind_byte count value ∙ ap (λ x. x / 256) begins
    ∙ div-mul-add before 256 byte small

-- ---- the same with a count that isn't zero

pub fits_more : (count k before most : ℕ) → count ≡ suc k → most < 2 ^ 64 → before ≤ most / 2 ^ (8 * count)
    → before < 2 ^ 56
fits_more count k before most e small below =
    let top : most / 2 ^ (8 * count) ≡ most / 2 ^ (8 * k) / 256 = ap (λ n. most / 2 ^ (8 * n)) e ∙ behind_byte k most in
    omega (arith, top, shr_le most (8 * k))

pub none_at : (count k before least most : ℕ) (bytes : List ℕ) → count ≡ suc k → least ≤ most
    → Begins count before least most → bytes ≡ []
    → IsStuck (NumbersFrom count before least most) bytes 0
none_at count k before least most bytes e le begins nil =
    subst (λ b. IsStuck (NumbersFrom count before least most) b 0) (sym nil)
    (subst (λ n. IsStuck (NumbersFrom n before least most) [] 0) (sym e)
    (number_none k before least most le (subst (λ n. Begins n before least most) e begins)))

pub bad_at : (count k before least most byte : ℕ) (bytes rest : List ℕ) → count ≡ suc k → least ≤ most
    → Begins count before least most
    → bytes ≡ byte ∷ rest → (Begins k (before * 256 + byte) least most → ⊥)
    → IsStuck (NumbersFrom count before least most) bytes (length bytes)
bad_at count k before least most byte bytes rest e le begins head not =
    subst (λ b. IsStuck (NumbersFrom count before least most) b (length b)) (sym head)
    (subst (λ n. IsStuck (NumbersFrom n before least most) (byte ∷ rest) (suc (length rest))) (sym e)
    (number_bad k before least most byte rest le (subst (λ n. Begins n before least most) e begins) not))

pub on_at : (count k before least most byte : ℕ) (bytes rest : List ℕ) (why : Stop) → count ≡ suc k → byte < 256
    → bytes ≡ byte ∷ rest
    → Stops (NumbersFrom k (before * 256 + byte) least most) rest why
    → Stops (NumbersFrom count before least most) bytes why
on_at count k before least most byte bytes rest why e small head s =
    subst (λ b. Stops (NumbersFrom count before least most) b why) (sym head)
    (subst (λ n. Stops (NumbersFrom n before least most) (byte ∷ rest) why) (sym e)
    (number_on k before least most byte rest why small s))

pub read_at : (count k before value byte : ℕ) (bytes behind rest : List ℕ) → count ≡ suc k → byte < 256
    → bytes ≡ byte ∷ behind
    → value / 2 ^ (8 * k) ≡ before * 256 + byte → behind ≡ number k value ++ rest
    → (value / 2 ^ (8 * count) ≡ before) × (bytes ≡ number count value ++ rest)
read_at count k before value byte bytes behind rest e small head begins e2 = (
  ap (λ n. value / 2 ^ (8 * n)) e ∙ begun k before value byte small begins,
  head ∙ number_read k before value byte behind rest small begins e2 ∙ ap (λ n. number n value ++ rest) (sym e),
)

-- ---- numbers without bytes before them

pub from_whole : (count least most : ℕ) (text : List ℕ) → NumbersFrom count 0 least most text
    → Numbers count least most text
from_whole count least most text is =
    record { value = is.value; above = is.above; below = is.below; spelled = is.spelled }

div_zero : (n p : ℕ) → 0 < p → n < p → n / p ≡ 0
div_zero n p pos small =
    let le : n / p * p ≤ n = div-mul-le_self n p in
    elim (cases_lt 0 (n / p)) [
      | inl more ↦ let one : 1 * p ≤ n / p * p = mul-le-mul_right p more in absurd (omega (arith, one, le, small))
      | inr none ↦ omega arith
    ]

pub none_before : (count n most : ℕ) → n ≤ most → most < 2 ^ (8 * count) → n / 2 ^ (8 * count) ≡ 0
none_before count n most le small = div_zero n (2 ^ (8 * count)) (pow_pos (8 * count)) (omega arith)

pub to_whole : (count least most : ℕ) (text : List ℕ) → most < 2 ^ (8 * count) → Numbers count least most text
    → NumbersFrom count 0 least most text
to_whole count least most text small is = record {
  value = is.value;
  above = is.above;
  below = is.below;
  begins = none_before count is.value most is.below small;
  spelled = is.spelled;
}
