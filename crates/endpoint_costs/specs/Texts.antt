-- The text of an address in the memory that it takes.
use Rattle.std.specs.Prelude.{ℕ, List}
use Rattle.endpoint_costs.specs.declared.text.Kept.{Kept}
use Rattle.endpoint_costs.specs.declared.text.Kept.TheVariants as kept

-- the bytes, wherever they stand
abbrev pub kept_in : Kept → List ℕ
kept_in (kept.Short text) = text.bytes
kept_in (kept.Long text) = text
