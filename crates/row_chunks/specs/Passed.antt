-- Which blocks begin before a cut.
use Rattle.std.specs.Prelude.{◌≡◌, ℕ, ◌≤◌, true, false, List, length, take, drop}
use Rattle.std.specs.List.{AllByRecursion}
use Rattle.row_chunks.specs.declared.cut.Cut.{Cut}
use Rattle.row_chunks.specs.Blocks.{Placed}
use Rattle.row_chunks.specs.Cut.{keeps}

-- so many blocks begin before a cut, and the others behind it
pub record IsPassed (cut : Cut) (slots : List Placed) (at : ℕ) : Type 0 where
  pub within : at ≤ length slots
  pub passed : AllByRecursion (λ slot. keeps cut slot.first ≡ false) (take at slots)
  pub kept : AllByRecursion (λ slot. keeps cut slot.first ≡ true) (drop at slots)
