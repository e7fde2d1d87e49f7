-- Texts with a number in them are names.
use Rattle.std.proofs.Common.{◌≡◌, ℕ, ◌+◌, ◌%◌, ◌^◌, ◌<◌, ◌≤◌, Bool, true, false, not, List, [], ◌∷◌, ◌++◌, length}
use Rattle.std.proofs.Common.{None, Ok, codes, decimal, refl, arith}
use Rattle.std.proofs.lemmas.Bool.Decides.{nat_tests}
use Rattle.std.proofs.lemmas.Fmt.{decimal_by_steps, length-decimal-le}
use Rattle.std.proofs.lemmas.Nat.{mod_below}
use Rattle.std.specs.Prelude.{⊤, nat_lt}
use Rattle.std.specs.List.{position_from}
use Rattle.alto_names.specs.Name.{IsPidName, is_import_byte, is_pid_byte, named}
use Rattle.alto_drill.specs.Imports.{import_id, pid_name}

-- each byte is in the alphabet
abbrev Admits : (ℕ → Bool) → List ℕ → Type 0
Admits alphabet [] = ⊤
Admits alphabet (byte ∷ text) = (alphabet byte ≡ true) × Admits alphabet text

none_bad : (alphabet : ℕ → Bool) (i : ℕ) (text : List ℕ) → Admits alphabet text
    → position_from (λ byte. not (alphabet byte)) i text ≡ None
none_bad alphabet i [] h = refl
none_bad alphabet i (byte ∷ text) h = rw h.0 (none_bad alphabet (i + 1) text h.1)

named_if : (alphabet : ℕ → Bool) (longest byte : ℕ) (text : List ℕ) → Admits alphabet (byte ∷ text)
    → length (byte ∷ text) ≤ longest
    → named alphabet longest (byte ∷ text) ≡ Ok (byte ∷ text)
named_if alphabet longest byte text h short =
    let fits : nat_lt longest (length (byte ∷ text)) ≡ false = grind (arith, nat_tests) in
    rw (fits, none_bad alphabet 0 (byte ∷ text) h) refl

admits_append : (alphabet : ℕ → Bool) (first second : List ℕ) → Admits alphabet first → Admits alphabet second
    → Admits alphabet (first ++ second)
admits_append alphabet [] second a b = b
admits_append alphabet (byte ∷ first) second a b = (a.0, admits_append alphabet first second a.1 b)

-- the digits of a number, where the alphabet has the digits
admits_decimal : (alphabet : ℕ → Bool) → ((d : ℕ) → d < 10 → alphabet (48 + d) ≡ true) → (n : ℕ) → n < 2 ^ 64
    → Admits alphabet (decimal n)
admits_decimal alphabet digit n small =
    decimal_by_steps (λ _ text. Admits alphabet text) (λ d low. (digit d low, tt))
    (λ d text high h. admits_append alphabet text ((48 + d % 10) ∷ [])
    h (digit (d % 10) (mod_below d 10 (omega arith)), tt)) n small

pid_digit : (d : ℕ) → d < 10 → is_pid_byte (48 + d) ≡ true
pid_digit d low = grind (arith, nat_tests)

import_digit : (d : ℕ) → d < 10 → is_import_byte (48 + d) ≡ true
import_digit d low = grind (arith, nat_tests)

few_digits : (n : ℕ) → n < 2 ^ 64 → length (decimal n) ≤ 20
few_digits n small = length-decimal-le 20 n (omega arith) (omega (arith, small)) small

-- the name of a PID is one
pub pid_named : (m : ℕ) → m < 2 ^ 64 → IsPidName (pid_name m)
pid_named m small =
    let few = few_digits m small in
    named_if is_pid_byte 64 112 (decimal m) (refl, admits_decimal is_pid_byte pid_digit m small) (omega (arith, few))

-- the id of an import is one
pub import_named : (k : ℕ) → k < 2 ^ 64 → named is_import_byte 64 (import_id k) ≡ Ok (import_id k)
import_named k small =
    let few = few_digits k small in
    named_if is_import_byte 64 100 (codes "rill-" ++ decimal k)
    (refl, (refl, (refl, (refl, (refl, (refl, admits_decimal is_import_byte import_digit k small))))))
    (omega (arith, few))
