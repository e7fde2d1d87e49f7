-- Rows in blocks, one after another, each with its first key and the number of rows before it.
use Rattle.std.specs.Prelude.{◌≡◌, ℕ, ◌+◌, List, [], ◌∷◌, ◌++◌, length, Option, option_map, slice_get}
use Rattle.std.specs.List.{AllByRecursion}
use Rattle.alto_rows.specs.declared.key.Key.{Key}
use Rattle.alto_rows.specs.declared.value.Value.{Value}
use Rattle.alto_rows.specs.Rows.{Rows}

-- the rows of a block in its place, with its first key and the number of rows before it
pub record Placed : Type 0 where
  pub first : Key
  pub before : ℕ
  pub rows : Rows

-- the rows of blocks, one block after another
abbrev pub joined : List Placed → Rows
joined [] = []
joined (slot ∷ slots) = slot.rows ++ joined slots

-- rows begin with the row of a key
pub record BeginsAt (key : Key) (rows : Rows) : Type 0 where
  pub value : Value
  pub rest : Rows
  pub whole : rows ≡ (key, value) ∷ rest

-- each block begins at its first key
abbrev pub AllBegin : List Placed → Type 0
AllBegin slots = AllByRecursion (λ slot. BeginsAt slot.first slot.rows) slots

-- each block has its number of rows before it, after so many, and with the last there are so many in all
abbrev pub AreCounted : ℕ → ℕ → List Placed → Type 0
AreCounted before total [] = before ≡ total
AreCounted before total (slot ∷ slots) =
    (slot.before ≡ before) × AreCounted (before + length slot.rows) total slots

-- the rows of the first block
abbrev pub first_rows : List Placed → Rows
first_rows [] = []
first_rows (slot ∷ slots) = slot.rows

-- the key of the first row, if there is one
abbrev pub first_key : Rows → Option Key
first_key rows = option_map (λ row. row.0) (slice_get rows 0)
