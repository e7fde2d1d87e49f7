-- What the tokens of addresses are: no front of one is another kind of text.
use Rattle.std.proofs.Common.{◌≡◌, ℕ, zero, suc, ◌^◌, ◌<◌, ◌≤◌, List, [], ◌∷◌, ◌++◌, length, get_or, take, decimal, sym}
use Rattle.std.proofs.Common.{ap, ◌∙◌, subst, inl, inr, arith, append-nil, length-append, lit≤, get_or-take}
use Rattle.std.proofs.lemmas.Bool.{cases_lt}
use Rattle.std.proofs.lemmas.List.{take-append-le, take-take, length-take-le}
use Rattle.std.proofs.lemmas.Fmt.{decimal_is_IsNumeral, decimal_digit, first_decimal, decimal-digits_value}
use Rattle.std.proofs.lemmas.Str.Parse.{numerals_by_value, tells_digits, digits_value-take-le}
use Rattle.std.specs.Char.{digit_value}
use Rattle.std.specs.Str.Parse.{AllDigits, IsNumeral, digits_value}
use Rattle.alto_addr.specs.Place.{IsLongestFront}
use Rattle.alto_addr.specs.Languages.{IsTokenFront}
use Rattle.alto_addr.specs.Tokens.{IsDecimal, IsOctet, IsLength, IsGroup}
use Rattle.alto_addr.proofs.Sequences.{IsToken}

AllDigits-take : (radix n : ℕ) (text : List ℕ) → AllDigits radix text → AllDigits radix (take n text)
AllDigits-take radix zero text all = tt
AllDigits-take radix (suc n) [] all = tt
AllDigits-take radix (suc n) (digit ∷ text) all = (all.0, AllDigits-take radix n text all.1)

pub AllDigits-last : (radix byte : ℕ) (text : List ℕ) → AllDigits radix (text ++ byte ∷ []) → digit_value byte < radix
AllDigits-last radix byte [] all = all.0
AllDigits-last radix byte (digit ∷ text) all = AllDigits-last radix byte text all.1

-- a number below the limit as its digits
pub record IsShortNumeral (limit : ℕ) (text : List ℕ) : Type 0 where
  pub digits : IsNumeral 10 text
  pub alone : get_or text 0 0 ≡ 48 → length text ≡ 1
  pub fits : digits_value 10 text < limit

numeral_of_value : (limit value : ℕ) → limit ≤ 1000 → value < limit → IsShortNumeral limit (decimal value)
numeral_of_value limit value most fits =
    let small : value < 2 ^ 64 = omega arith in
    let numeral = decimal_is_IsNumeral value small in
    record {
      digits = numeral.0;
      alone = λ zero_first. elim (cases_lt 0 value) [
        | inl some ↦
            let more : 48 < get_or (decimal value) 0 0 = first_decimal value some small in
            absurd (omega arith)
        | inr none ↦ ap length (decimal_digit value (omega arith))
      ];
      fits = omega (arith, numeral.1);
    }

pub decimal_numeral : (limit : ℕ) (text : List ℕ) → limit ≤ 1000 → IsDecimal limit text → IsShortNumeral limit text
decimal_numeral limit text most h =
    subst (IsShortNumeral limit) (sym h.spelled) (numeral_of_value limit h.value most h.fits)

pub numeral_decimal : (limit : ℕ) (text : List ℕ) → limit ≤ 1000 → IsShortNumeral limit text → IsDecimal limit text
numeral_decimal limit text most h = record {
  value = digits_value 10 text;
  fits = h.fits;
  spelled = sym (decimal-digits_value (numerals_by_value _ tells_digits) text h.digits.1 h.digits.0
      h.alone (omega (arith, h.fits)));
}

pub IsToken-IsDecimal : (limit : ℕ) → limit ≤ 1000 → IsToken (IsDecimal limit)
IsToken-IsDecimal limit most = record {
  some = λ text h. (decimal_numeral limit text most h).digits.0;
  closed = λ n text some within h.
      let whole = decimal_numeral limit text most h in
      let size = length-take-le n text within in
      numeral_decimal limit (take n text) most (record {
        digits = (omega arith, AllDigits-take 10 n text whole.digits.1);
        alone = λ zero_first.
            let one : length text ≡ 1 = whole.alone (sym (get_or-take n text 0 0 some) ∙ zero_first) in
            omega arith;
        fits = omega (arith, digits_value-take-le 10 text n (lit≤ tt), whole.fits);
      });
}

pub IsToken-IsOctet : IsToken IsOctet
IsToken-IsOctet = IsToken-IsDecimal 256 (lit≤ tt)

pub IsToken-IsLength : IsToken IsLength
IsToken-IsLength = IsToken-IsDecimal 1000 (lit≤ tt)

pub IsToken-IsGroup : IsToken IsGroup
IsToken-IsGroup = record {
  some = λ text h. h.digits.0;
  closed = λ n text some within h.
      let size = length-take-le n text within in
      record { digits = (omega arith, AllDigits-take 16 n text h.digits.1); short = omega (arith, h.short) };
}

-- the longest front that is a token is the longest front that begins one
pub IsLongestFront-Token : (Token : List ℕ → Type 0) → IsToken Token → (some text : List ℕ) (n : ℕ) → Token some
    → IsTokenFront Token text n
    → IsLongestFront Token text n
IsLongestFront-Token Token token some text n is_token front = record {
  within = front.within;
  begins = elim (cases_lt 0 n) [
    | inl more ↦ ([], subst Token (sym (append-nil (take n text))) (front.token more))
    | inr none ↦
        let e : 0 ≡ n = omega arith in
        (some, subst (λ n. Token (take n text ++ some)) e is_token)
  ];
  longest = λ m within begins. elim (cases_lt 0 m) [
    | inr none ↦ omega arith
    | inl more ↦
        let size = length-take-le m text within in
        let whole : Token (take m (take m text ++ begins.0)) =
        token.closed m (take m text ++ begins.0)
        more (omega (arith, size, length-append (take m text) begins.0)) begins.1 in
        front.longest m within
        (subst Token (take-append-le m (take m text) begins.0 (omega arith) ∙ take-take m m text (omega arith)) whole)
  ];
}

-- where the next byte makes it no token, the front is the longest
pub IsTokenFront-stop : (Token : List ℕ → Type 0) → IsToken Token → (text : List ℕ) (n : ℕ) → n ≤ length text
    → (0 < n → Token (take n text)) → (n < length text → Token (take (suc n) text) → ⊥) → IsTokenFront Token text n
IsTokenFront-stop Token token text n within front stop = record {
  within = within;
  token = front;
  longest = λ m reaches whole. elim (cases_lt n m) [
    | inr least ↦ least
    | inl more ↦
        let size = length-take-le m text reaches in
        let longer = token.closed (suc n) (take m text) (omega arith) (omega arith) whole in
        absurd (stop (omega arith) (subst Token (take-take (suc n) m text more) longer))
  ];
}
