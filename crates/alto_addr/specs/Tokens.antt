-- The tokens of addresses and prefixes: a decimal number below a limit, and a group of one to four hexadecimal digits.
use Rattle.std.specs.Prelude.{◌≡◌, ℕ, ◌+◌, ◌-◌, ◌*◌, ◌<◌, ◌≤◌, Bool, false, not, ◌&&◌, ◌==◌, nat_lt, nat_le, List, []}
use Rattle.std.specs.Prelude.{◌∷◌, length, decimal}
use Rattle.std.specs.Char.{is_ascii_digit, is_digit}
use Rattle.std.specs.List.{list_all}
use Rattle.std.specs.Str.Parse.{IsNumeral}

-- a decimal number below the limit, without leading zeros
pub record IsDecimal (limit : ℕ) (text : List ℕ) : Type 0 where
  pub value : ℕ
  pub fits : value < limit
  pub spelled : text ≡ decimal value

-- a number from 0 to 255
abbrev pub IsOctet : List ℕ → Type 0
IsOctet text = IsDecimal 256 text

-- a length of a prefix: up to three digits
abbrev pub IsLength : List ℕ → Type 0
IsLength text = IsDecimal 1000 text

-- one to four hexadecimal digits
pub record IsGroup (text : List ℕ) : Type 0 where
  pub digits : IsNumeral 16 text
  pub short : length text ≤ 4

-- the test of a decimal number below a limit of at most 1000, by its one, two or three digits
abbrev pub decimal_test : ℕ → List ℕ → Bool
decimal_test limit [] = false
decimal_test limit (a ∷ []) = is_ascii_digit a
decimal_test limit (a ∷ b ∷ []) = is_ascii_digit a && not (a == 48) && is_ascii_digit b
decimal_test limit (a ∷ b ∷ c ∷ []) =
    is_ascii_digit a && not (a == 48) && is_ascii_digit b && is_ascii_digit c
    && nat_lt ((a - 48) * 100 + (b - 48) * 10 + (c - 48)) limit
decimal_test limit (a ∷ b ∷ c ∷ d ∷ rest) = false

-- the test of one to four hexadecimal digits
abbrev pub group_test : List ℕ → Bool
group_test text = nat_lt 0 (length text) && nat_le (length text) 4 && list_all (λ byte. is_digit byte 16) text
