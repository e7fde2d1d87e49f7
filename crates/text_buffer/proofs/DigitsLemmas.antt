-- How many digits are written of a number.
use Rattle.std.proofs.Common.{◌≡◌, ℕ, zero, suc, ◌+◌, ◌*◌, ◌^◌, ◌/◌, ◌<◌, ◌≤◌, length, decimal, arith}
use Rattle.itoa.proofs.Decimal.{length_one, length_step_wide}

-- a number from a power of ten up to the next has one digit more than the power says
pub digits_are : (power number : ℕ) → number < 2 ^ 128 → 10 ^ power ≤ number → number < 10 * 10 ^ power
    → length (decimal number) ≡ power + 1
digits_are zero number fits low high = length_one number (omega (arith, high))
digits_are (suc power) number fits low high =
    let tenth = digits_are power (number / 10) (omega (arith, fits)) (omega (arith, low)) (omega (arith, high)) in
    let more = length_step_wide number (omega (arith, low)) fits in
    omega (arith, tenth, more)
