-- Digits that are counted write a small number.
use Rattle.std.proofs.Common.{◌≡◌, ℕ, ◌+◌, ◌<◌, ◌≤◌, ◌^◌, true, false, List, [], ◌∷◌, length, refl, nat_eq, arith}
use Rattle.std.proofs.lemmas.Bool.Decides.{nat_tests}
use Rattle.std.specs.Char.{is_ascii_digit}
use Rattle.std.proofs.Math.Nat.{pow-le-pow_right}
use Rattle.cost_rule.specs.Grammar.{is_blank, number_after}
use Rattle.cost_rule.specs.Stages.{pushed}
use Rattle.cost_rule.specs.declared.digits.Digits.{Digits}

-- a number of few digits is below the power of the most that there may be
pub below_power : (limit count number : ℕ) → count ≤ limit → number < 10 ^ count → number < 10 ^ limit
below_power limit count number few below =
    let larger : 10 ^ count ≤ 10 ^ limit = pow-le-pow_right (omega arith) few in
    omega arith

-- the digits with others pushed after them
abbrev pub extended : Digits → List ℕ → Digits
extended digits [] = digits
extended digits (byte ∷ more) = extended (pushed digits byte) more

-- their count
pub extended-count : (digits : Digits) (more : List ℕ) → (extended digits more).count ≡ digits.count + length more
extended-count digits [] = omega arith
extended-count digits (byte ∷ more) =
    let rest : (extended (pushed digits byte) more).count ≡ digits.count + 1 + length more =
    extended-count (pushed digits byte) more in
    omega arith

-- their number
pub extended-number : (digits : Digits) (more : List ℕ)
    → (extended digits more).number ≡ number_after digits.number more
extended-number digits [] = refl
extended-number digits (byte ∷ more) = extended-number (pushed digits byte) more

-- a digit is none of the marks
pub digit-point : (byte : ℕ) → is_ascii_digit byte ≡ true → nat_eq byte 46 ≡ false
digit-point byte h = grind (arith, nat_tests)

pub digit-bracket : (byte : ℕ) → is_ascii_digit byte ≡ true → nat_eq byte 93 ≡ false
digit-bracket byte h = grind (arith, nat_tests)

pub digit-blank : (byte : ℕ) → is_ascii_digit byte ≡ true → is_blank byte ≡ false
digit-blank byte h = grind (arith, nat_tests)
