-- Numbers of up to 16 digits.
use Rattle.std.proofs.Common.{◌≡◌, ℕ, ◌+◌, ◌-◌, ◌*◌, ◌^◌, ◌<◌, ◌≤◌, Bool, true, false, ◌&&◌, List, length, take, get_or}
use Rattle.std.proofs.Common.{IsTrue, lit<, refl, sym, ◌∙◌, add-one, arith, tests}
use Rattle.std.specs.Char.{is_ascii_digit}
use Rattle.std.specs.Int.{IsInRange}
use Rattle.std.specs.Str.Parse.{digits_value}
use Rattle.std.proofs.Math.Nat.{pow-le-pow_right, pow-suc}
use Rattle.std.proofs.lemmas.Bool.{false≢true}
use Rattle.std.proofs.lemmas.Int.Digits.{digits_value_more}
use Rattle.std.proofs.lemmas.List.Folds.{list_all_at}
use Rattle.std.proofs.lemmas.Str.{digit_value_digit}
use Rattle.edit_forms.specs.Columns.{is_decimal}

decimal_all : (a b : Bool) → IsTrue (a && b) → b ≡ true
decimal_all true b h = h
decimal_all false b h = cc

digit_range : (c : ℕ) → is_ascii_digit c ≡ true → IsInRange 48 57 c
digit_range c h = grind (arith, tests)

-- each byte of a decimal number is a digit
digit_at : (digits : List ℕ) (i : ℕ) → IsTrue (is_decimal digits) → i < length digits
    → IsInRange 48 57 (get_or digits i 0)
digit_at digits i is lt = by_test (is_ascii_digit (get_or digits i 0)) refl
  where
    by_test : (t : Bool) → is_ascii_digit (get_or digits i 0) ≡ t → IsInRange 48 57 (get_or digits i 0)
    by_test true digit = digit_range _ digit
    by_test false other = absurd (false≢true (sym (list_all_at is_ascii_digit digits i 0 lt other)
        ∙ decimal_all _ _ is))

-- a number with one digit more
pub record Grows (text : List ℕ) (place number : ℕ) : Type 0 where
  pub digit : (48 ≤ get_or text place 0) × (get_or text place 0 ≤ 57)
  pub value : number * 10 + (get_or text place 0 - 48) ≡ digits_value 10 (take (place + 1) text)
  pub small : number * 10 + (get_or text place 0 - 48) < 10 ^ (place + 1)
  pub fits : number * 10 + 9 < 2 ^ 64

pub number_grows : (text : List ℕ) (place number : ℕ) → IsTrue (is_decimal text) → length text ≤ 16
    → place < length text
    → number ≡ digits_value 10 (take place text) → number < 10 ^ place → Grows text place number
number_grows text place number is few within had less =
    let range = digit_at text place is within in
    let value = digit_value_digit (get_or text place 0) range in
    let more = digits_value_more 10 text place within in
    let grown : 10 ^ (place + 1) ≡ 10 ^ place * 10 = rw add-one (pow-suc 10 place) in
    let bound : 10 ^ place ≤ 10 ^ 15 = pow-le-pow_right (lit< tt) {i = place} {j = 15} (omega (arith, few)) in
    record {
      digit = (omega (arith, range), omega (arith, range));
      value = omega (arith, value, more, had);
      small = omega (arith, grown, range);
      fits = omega (arith, bound);
    }
