-- Numbers in the path of an edge.
use Rattle.std.proofs.Common.{◌≡◌, ℕ, ◌+◌, ◌-◌, ◌*◌, ◌^◌, ◌<◌, ◌≤◌, Bool, true, false, ◌&&◌, not, List, length, take}
use Rattle.std.proofs.Common.{get_or, IsTrue, lit<, refl, add-one, arith}
use Rattle.std.specs.Prelude.{nat_le}
use Rattle.std.specs.Str.Parse.{digits_value}
use Rattle.std.proofs.Math.Nat.{pow-le-pow_right, pow-suc}
use Rattle.std.proofs.lemmas.Bool.Decides.{nat_tests}
use Rattle.std.proofs.lemmas.Int.Digits.{digits_value_more}
use Rattle.std.proofs.lemmas.Str.{digit_value_digit}
use Rattle.alto_http.specs.Fields.{is_decimal}
use Rattle.alto_http.proofs.FieldLemmas.{digit_at}
use Rattle.alto_answers.specs.Edges.{has_leading_zero, is_edge_number}

both_first : (a b c : Bool) → (a && b && c) ≡ true → (IsTrue a) × (b ≡ true)
both_first true true true h = (refl, refl)
both_first true true false h = cc
both_first true false c h = cc
both_first false b c h = cc

-- the digits of an edge's number, of which there are few
pub few_digits : (text : List ℕ) → is_edge_number text ≡ true → IsTrue (is_decimal text) × (length text ≤ 18)
few_digits text h =
    let parts = both_first (is_decimal text) (nat_le (length text) 18) (not (has_leading_zero text)) h in
    (parts.0, grind (arith, nat_tests, parts.1))

-- a number with one digit more
pub record Grows (text : List ℕ) (place number : ℕ) : Type 0 where
  pub digit : (48 ≤ get_or text place 0) × (get_or text place 0 ≤ 57)
  pub value : number * 10 + (get_or text place 0 - 48) ≡ digits_value 10 (take (place + 1) text)
  pub small : number * 10 + (get_or text place 0 - 48) < 10 ^ (place + 1)
  pub fits : number * 10 + 9 < 2 ^ 64

pub number_grows : (text : List ℕ) (place number : ℕ) → is_edge_number text ≡ true → place < length text
    → number ≡ digits_value 10 (take place text) → number < 10 ^ place → Grows text place number
number_grows text place number h within had less =
    let few = few_digits text h in
    let range = digit_at text place few.0 within in
    let value = digit_value_digit (get_or text place 0) range in
    let more = digits_value_more 10 text place within in
    let grown : 10 ^ (place + 1) ≡ 10 ^ place * 10 = rw add-one (pow-suc 10 place) in
    let bound : 10 ^ place ≤ 10 ^ 17 = pow-le-pow_right (lit< tt) {i = place} {j = 17} (omega (arith, few.1)) in
    record {
      digit = (omega (arith, range), omega (arith, range));
      value = omega (arith, value, more, had);
      small = omega (arith, grown, range);
      fits = omega (arith, bound);
    }
