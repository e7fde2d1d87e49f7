-- Numbers in as few bytes as they fit.
use Rattle.std.specs.Prelude.{ℕ, List}
use Rattle.cost_tables.specs.declared.numbers.Kept.{Kept}
use Rattle.cost_tables.specs.declared.numbers.Kept.TheVariants as kept

-- the numbers, whatever they are kept in
abbrev pub kept_in : Kept → List ℕ
kept_in (kept.Narrow numbers) = numbers.items
kept_in (kept.Wide numbers) = numbers.items
