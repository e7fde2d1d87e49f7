-- A number whose last bits are zeros.
use Rattle.std.proofs.Common.{◌≡◌, ℕ, ◌-◌, ◌*◌, ◌/◌, ◌%◌, ◌^◌, ap, ◌∙◌, arith}
use Rattle.std.proofs.lemmas.Nat.{shl-shr, shr_split}
use Rattle.std.proofs.Math.Nat.{mul-mod_left}

-- without its last bits a number is its first ones
whole : (n k : ℕ) → n - n % 2 ^ k ≡ n / 2 ^ k * 2 ^ k
whole n k = omega (arith, shr_split n k)

-- its first bits stay
pub first_stay : (n k : ℕ) → (n - n % 2 ^ k) / 2 ^ k ≡ n / 2 ^ k
first_stay n k = ap (λ m. m / 2 ^ k) (whole n k) ∙ shl-shr (n / 2 ^ k) k

-- and no others
pub none_last : (n k : ℕ) → (n - n % 2 ^ k) % 2 ^ k ≡ 0
none_last n k = ap (λ m. m % 2 ^ k) (whole n k) ∙ mul-mod_left (n / 2 ^ k) (2 ^ k)
