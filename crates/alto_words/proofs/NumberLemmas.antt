-- Numbers among the words.
use Rattle.std.proofs.Common.{◌≡◌, ◌≢◌, ℕ, ◌^◌, ◌<◌, true, List, length, None, Result, Ok, Err, refl, arith}
use Rattle.std.proofs.lemmas.Bool.Decides.{nat_tests}
use Rattle.std.proofs.lemmas.Str.Parse.{IsDigitsTest, numerals_by_value, parse_digits}
use Rattle.std.specs.Char.{is_ascii_digit}
use Rattle.std.specs.List.{list_all}
use Rattle.std.specs.Str.Parse.{ParsesUnsigned, digits_value}
use Rattle.alto_words.specs.Numbers.{is_number, number_in}

-- the bytes are decimal digits
all_digits : IsDigitsTest (λ ds. list_all is_ascii_digit ds ≡ true)
all_digits = record {
  empty = refl;
  parts = λ c cs all. Prim.grind (arith, nat_tests, all);
  more = λ c cs digit all. Prim.grind (arith, nat_tests, digit, all);
}

-- a number that doesn't fit 32 bits is past any bound that does
pub none_past_word : {E : Type 0} (least most : ℕ) (word : List ℕ) (r : Result ℕ E) → most < 2 ^ 32
    → is_number word ≡ true
    → ParsesUnsigned 32 10 word r → ((n : ℕ) → r ≢ Ok n) → None ≡ number_in least most word
none_past_word least most word (Ok n) fits number parses none = absurd (none n refl)
none_past_word least most word (Err e) fits number parses none =
    let some : 0 < length word = Prim.grind (arith, nat_tests, number) in
    let all : list_all is_ascii_digit word ≡ true = Prim.grind (arith, nat_tests, number) in
    let over : ¬ (digits_value 10 word < 2 ^ 32) =
    λ lt. parse_digits (numerals_by_value (λ ds. list_all is_ascii_digit ds ≡ true) all_digits) 32 word (Err e) parses
    all (some, lt) in
    Prim.grind (arith, nat_tests, over, number, fits)
