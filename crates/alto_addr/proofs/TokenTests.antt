-- The tests of tokens tell just the tokens.
use Rattle.std.proofs.Common.{◌≡◌, ◌≢◌, ℕ, ◌+◌, ◌-◌, ◌*◌, ◌<◌, ◌≤◌, Bool, true, false, ◌&&◌, ◌==◌, not, nat_le, nat_lt}
use Rattle.std.proofs.Common.{List, [], ◌∷◌, length, decimal, refl, sym, ap, ◌∙◌, subst, arith, lit≤, true≢false}
use Rattle.std.proofs.lemmas.Bool.Decides.{nat_tests}
use Rattle.std.proofs.lemmas.Fmt.{decimal_is_IsNumeral}
use Rattle.std.proofs.lemmas.Str.Parse.{digits_value-take-le, digit_from_value}
use Rattle.std.specs.Int.{IsInRange}
use Rattle.std.specs.Char.{digit_value, is_ascii_digit, is_digit}
use Rattle.std.specs.List.{list_all}
use Rattle.std.specs.Str.Parse.{AllDigits, digits_value}
use Rattle.alto_addr.specs.Tokens.{IsDecimal, IsGroup, decimal_test, group_test}
use Rattle.alto_addr.proofs.Tokens.{IsShortNumeral, decimal_numeral, numeral_decimal}

value_of_digit : (a : ℕ) → IsInRange 48 57 a → digit_value a ≡ a - 48
value_of_digit a h = grind (arith, nat_tests)

digit_tested : (a : ℕ) → is_ascii_digit a ≡ true → IsInRange 48 57 a
digit_tested a h = grind (arith, nat_tests)

test_of_digit : (a : ℕ) → IsInRange 48 57 a → is_ascii_digit a ≡ true
test_of_digit a h = grind (arith, nat_tests)

both_true : (a b : Bool) → a && b ≡ true → (a ≡ true) × (b ≡ true)
both_true true b h = (refl, h)
both_true false b h = cc

and_true : (a b : Bool) → a ≡ true → b ≡ true → a && b ≡ true
and_true a b h k = rw (h, k) refl

not_zero_tested : (a : ℕ) → not (a == 48) ≡ true → a ≢ 48
not_zero_tested a h = grind (arith, nat_tests)

test_of_not_zero : (a : ℕ) → a ≢ 48 → not (a == 48) ≡ true
test_of_not_zero a h = grind (arith, nat_tests)

le_tested : (a b : ℕ) → nat_le a b ≡ true → a ≤ b
le_tested a b h = grind (arith, nat_tests)

test_of_le : (a b : ℕ) → a ≤ b → nat_le a b ≡ true
test_of_le a b h = grind (arith, nat_tests)

lt_tested : (a b : ℕ) → nat_lt a b ≡ true → a < b
lt_tested a b h = grind (arith, nat_tests)

test_of_lt : (a b : ℕ) → a < b → nat_lt a b ≡ true
test_of_lt a b h = grind (arith, nat_tests)

pub value_of_one : (a : ℕ) → IsInRange 48 57 a → digits_value 10 (a ∷ []) ≡ a - 48
value_of_one a h = omega (arith, value_of_digit a h)

pub value_of_two : (a b : ℕ) → IsInRange 48 57 a → IsInRange 48 57 b
    → digits_value 10 (a ∷ b ∷ []) ≡ (a - 48) * 10 + (b - 48)
value_of_two a b h k = omega (arith, value_of_digit a h, value_of_digit b k)

pub value_of_three : (a b c : ℕ) → IsInRange 48 57 a → IsInRange 48 57 b → IsInRange 48 57 c
    → digits_value 10 (a ∷ b ∷ c ∷ []) ≡ (a - 48) * 100 + (b - 48) * 10 + (c - 48)
value_of_three a b c h k j = omega (arith, value_of_digit a h, value_of_digit b k, value_of_digit c j)

module _ (limit : ℕ) (above : 100 ≤ limit) (most : limit ≤ 1000) where
  one_digit : (a : ℕ) → IsInRange 48 57 a → IsShortNumeral limit (a ∷ [])
  one_digit a h =
      let value = value_of_digit a h in
      record { digits = (omega arith, (omega arith, tt)); alone = λ _. refl; fits = omega (arith, value_of_one a h) }

  two_digits : (a b : ℕ) → IsInRange 48 57 a → a ≢ 48 → IsInRange 48 57 b → IsShortNumeral limit (a ∷ b ∷ [])
  two_digits a b h some k =
      let value_a = value_of_digit a h in
      let value_b = value_of_digit b k in
      record {
        digits = (omega arith, (omega arith, (omega arith, tt)));
        alone = λ e. absurd (some e);
        fits = omega (arith, value_of_two a b h k);
      }

  three_digits : (a b c : ℕ) → IsInRange 48 57 a → a ≢ 48 → IsInRange 48 57 b → IsInRange 48 57 c
      → (a - 48) * 100 + (b - 48) * 10 + (c - 48) < limit → IsShortNumeral limit (a ∷ b ∷ c ∷ [])
  three_digits a b c h some k j fits =
      let value_a = value_of_digit a h in
      let value_b = value_of_digit b k in
      let value_c = value_of_digit c j in
      record {
        digits = (omega arith, (omega arith, (omega arith, (omega arith, tt))));
        alone = λ e. absurd (some e);
        fits = omega (arith, value_of_three a b c h k j);
      }

  tested : (text : List ℕ) → decimal_test limit text ≡ true → IsShortNumeral limit text
  tested [] h = cc
  tested (a ∷ []) h = one_digit a (digit_tested a h)
  tested (a ∷ b ∷ []) h =
      let (front, last) = both_true _ _ h in
      let (first, some) = both_true _ _ front in
      two_digits a b (digit_tested a first) (not_zero_tested a some) (digit_tested b last)
  tested (a ∷ b ∷ c ∷ []) h =
      let (digits, fits) = both_true _ _ h in
      let (two, last) = both_true _ _ digits in
      let (front, second) = both_true _ _ two in
      let (first, some) = both_true _ _ front in
      three_digits a b c (digit_tested a first) (not_zero_tested a some) (digit_tested b second) (digit_tested c last)
      (lt_tested _ _ fits)
  tested (a ∷ b ∷ c ∷ d ∷ rest) h = cc

  test_of : (text : List ℕ) → IsShortNumeral limit text → decimal_test limit text ≡ true
  test_of [] h = absurd (omega (arith, h.digits.0))
  test_of (a ∷ []) h = test_of_digit a (digit_from_value a h.digits.1.0)
  test_of (a ∷ b ∷ []) h =
      let first = digit_from_value a h.digits.1.0 in
      let second = digit_from_value b h.digits.1.1.0 in
      let some : a ≢ 48 = λ e. let one : 2 ≡ 1 = h.alone e in absurd (omega (arith, one)) in
      and_true _ _ (and_true _ _ (test_of_digit a first) (test_of_not_zero a some)) (test_of_digit b second)
  test_of (a ∷ b ∷ c ∷ []) h =
      let first = digit_from_value a h.digits.1.0 in
      let second = digit_from_value b h.digits.1.1.0 in
      let third = digit_from_value c h.digits.1.1.1.0 in
      let some : a ≢ 48 = λ e. let one : 3 ≡ 1 = h.alone e in absurd (omega (arith, one)) in
      let fits : (a - 48) * 100 + (b - 48) * 10 + (c - 48) < limit =
      omega (arith, h.fits, value_of_three a b c first second third) in
      and_true _ _ (and_true _ _ (and_true _ _ (and_true _ _ (test_of_digit a first) (test_of_not_zero a some))
      (test_of_digit b second)) (test_of_digit c third)) (test_of_lt _ _ fits)
  test_of (a ∷ b ∷ c ∷ d ∷ rest) h =
      let first = digit_from_value a h.digits.1.0 in
      let some : a ≢ 48 = λ e. let one : length (a ∷ b ∷ c ∷ d ∷ rest) ≡ 1 = h.alone e in absurd (omega (arith, one)) in
      let value_a = value_of_digit a first in
      let small : digits_value 10 (a ∷ b ∷ c ∷ d ∷ []) ≤ digits_value 10 (a ∷ b ∷ c ∷ d ∷ rest) =
      digits_value-take-le 10 (a ∷ b ∷ c ∷ d ∷ rest) 4 (lit≤ tt) in
      absurd (omega (arith, h.fits))

  pub decimal_tested : (text : List ℕ) → decimal_test limit text ≡ true → IsDecimal limit text
  decimal_tested text h = numeral_decimal limit text most (tested text h)

  pub decimal_refused : (text : List ℕ) → decimal_test limit text ≡ false → IsDecimal limit text → ⊥
  decimal_refused text h number = true≢false (sym (test_of text (decimal_numeral limit text most number)) ∙ h)

all_digits : (text : List ℕ) → list_all (λ byte. is_digit byte 16) text ≡ true → AllDigits 16 text
all_digits [] h = tt
all_digits (byte ∷ text) h =
    let (first, later) = both_true (is_digit byte 16) _ h in
    (grind (arith, nat_tests), all_digits text later)

test_of_digits : (text : List ℕ) → AllDigits 16 text → list_all (λ byte. is_digit byte 16) text ≡ true
test_of_digits [] h = refl
test_of_digits (byte ∷ text) h =
    let first : nat_lt (digit_value byte) 16 ≡ true = grind (arith, nat_tests) in
    and_true _ _ first (test_of_digits text h.1)

pub group_tested : (text : List ℕ) → group_test text ≡ true → IsGroup text
group_tested text h =
    let (size, digits) = both_true _ _ h in
    let (some, short) = both_true _ _ size in
    record { digits = (grind (arith, nat_tests), all_digits text digits); short = le_tested _ _ short }

pub group_refused : (text : List ℕ) → group_test text ≡ false → IsGroup text → ⊥
group_refused text h group =
    let some : nat_lt 0 (length text) ≡ true = (let more = group.digits.0 in grind (arith, nat_tests)) in
    true≢false (sym (and_true _ _ (and_true _ _ some (test_of_le _ _ group.short)) (test_of_digits text group.digits.1))
    ∙ h)

-- the digits of a length write its value
pub value_is : (text : List ℕ) (value : ℕ) → decimal_test 1000 text ≡ true → value ≡ digits_value 10 text
    → (text ≡ decimal value) × (value < 1000)
value_is text value h e =
    let number = decimal_tested 1000 (lit≤ tt) (lit≤ tt) text h in
    let written : digits_value 10 (decimal number.value) ≡ number.value =
    (decimal_is_IsNumeral number.value (omega (arith, number.fits))).1 in
    let same : number.value ≡ value = sym written ∙ ap (digits_value 10) (sym number.spelled) ∙ sym e in
    (number.spelled ∙ ap decimal same, subst (λ n. n < 1000) same number.fits)
