-- The first of the kept numbers that passes a test.
use Rattle.std.proofs.Common.{◌≡◌, ◌∙◌, ℕ, suc, ◌<◌, ◌+◌, ◌-◌, Bool, false, cond, Some, List, ◌∷◌, ap, sym, arith}
use Rattle.std.specs.List.{find, range_with_len}

-- the numbers from one below the end on are that one, and those after it
numbers_step : (number end : ℕ) → number < end
    → range_with_len number (end - number) ≡ number ∷ range_with_len (number + 1) (end - (number + 1))
numbers_step number end below =
    let count : end - number ≡ suc (end - (number + 1)) = omega arith in
    ap (range_with_len number) count

-- where one doesn't pass, the first that does comes after it
pub find_later : (test : ℕ → Bool) (number end : ℕ) → number < end → test number ≡ false
    → find test (range_with_len (number + 1) (end - (number + 1))) ≡ find test (range_with_len number (end - number))
find_later test number end below fails =
    let later : List ℕ = range_with_len (number + 1) (end - (number + 1)) in
    let passed : find test (number ∷ later) ≡ find test later =
    ap (λ (b : Bool). cond b (Some number) (find test later)) fails in
    sym (ap (find test) (numbers_step number end below) ∙ passed)
