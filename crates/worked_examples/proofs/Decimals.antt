-- Numbers of few digits, as they are written.
use Rattle.std.specs.Prelude.{decimal}
use Rattle.std.proofs.Common.{ℕ, ◌+◌, ◌/◌, ◌%◌, ◌<◌, ◌≤◌, [], ◌∷◌, ◌++◌, ◌≡◌, ◌∙◌, ap, arith}
use Rattle.std.proofs.lemmas.Fmt.{decimal_digit, decimal_step}

pub decimal_three : (n : ℕ) → 100 ≤ n → n < 1000
    → decimal n ≡ (48 + n / 10 / 10) ∷ (48 + n / 10 % 10) ∷ (48 + n % 10) ∷ []
decimal_three n above below =
    decimal_step n (omega arith) (omega arith)
    ∙ ap (λ ds. ds ++ ((48 + n % 10) ∷ [])) (decimal_step (n / 10) (omega arith) (omega arith))
    ∙ ap (λ ds. (ds ++ ((48 + n / 10 % 10) ∷ [])) ++ ((48 + n % 10) ∷ [])) (decimal_digit (n / 10 / 10) (omega arith))
