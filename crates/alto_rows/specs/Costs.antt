-- The costs that rows give (RFC 7285, section 6.1): in a metric of a network, from a source to a destination.
use Rattle.std.specs.Prelude.{ℕ, List, Option, Some, None}
use Rattle.alto_rows.specs.declared.key.Key.TheVariants as key
use Rattle.alto_rows.specs.declared.value.Value.{Value}
use Rattle.alto_rows.specs.declared.value.Value.TheVariants as value
use Rattle.alto_rows.specs.Rows.{Rows, value_of}

-- the number that a row holds
abbrev pub number_at : Option Value → Option ℕ
number_at (Some (value.Num n)) = Some n
number_at _ = None

-- the cost of a pair
abbrev pub cost_of : Rows → List ℕ → List ℕ → List ℕ → List ℕ → Option ℕ
cost_of rows net metric src dst = number_at (value_of rows (key.Cost net metric src dst))
