-- Digits of a Content-Length.
use Rattle.std.proofs.Common.{◌≡◌, ℕ, ◌+◌, ◌-◌, ◌*◌, ◌<◌, min, Bool, true, false, ◌&&◌, List, length, take, get_or}
use Rattle.std.proofs.Common.{IsTrue, refl, sym, ◌∙◌, arith, tests}
use Rattle.std.specs.Char.{is_ascii_digit}
use Rattle.std.specs.Int.{IsInRange}
use Rattle.std.specs.Str.Parse.{digits_value}
use Rattle.std.proofs.lemmas.Int.Digits.{digits_value_more}
use Rattle.std.proofs.lemmas.List.Folds.{list_all_at}
use Rattle.std.proofs.lemmas.Str.{digit_value_digit}
use Rattle.std.proofs.lemmas.Bool.{false≢true}
use Rattle.alto_http.specs.Fields.{is_decimal}

decimal_all : (a b : Bool) → IsTrue (a && b) → b ≡ true
decimal_all true b h = h
decimal_all false b h = cc

digit_range : (c : ℕ) → is_ascii_digit c ≡ true → IsInRange 48 57 c
digit_range c h = grind (arith, tests)

-- each byte of a decimal number is a digit
pub digit_at : (digits : List ℕ) (i : ℕ) → IsTrue (is_decimal digits) → i < length digits
    → IsInRange 48 57 (get_or digits i 0)
digit_at digits i is lt = by_test (is_ascii_digit (get_or digits i 0)) refl
  where
    by_test : (t : Bool) → is_ascii_digit (get_or digits i 0) ≡ t → IsInRange 48 57 (get_or digits i 0)
    by_test true digit = digit_range _ digit
    by_test false other = absurd (false≢true (sym (list_all_at is_ascii_digit digits i 0 lt other)
        ∙ decimal_all _ _ is))

-- a number that is capped, one digit on
pub capped_more : (digits : List ℕ) (i size : ℕ) → IsTrue (is_decimal digits) → i < length digits
    → size ≡ min (digits_value 10 (take i digits)) 4194305
    → min (size * 10 + (get_or digits i 0 - 48)) 4194305 ≡ min (digits_value 10 (take (i + 1) digits)) 4194305
capped_more digits i size is lt had =
    let range = digit_at digits i is lt in
    let value = digit_value_digit (get_or digits i 0) range in
    let more = digits_value_more 10 digits i lt in
    omega (arith, value, more, had)
