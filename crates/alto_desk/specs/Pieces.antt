-- The pieces of a base among rows.
use Rattle.std.specs.Prelude.{◌≡◌, ◌≢◌, ℕ, pos, List, length, Some, take, slice_get}
use Rattle.alto_keeper.specs.Stored.{RowData, numbered}

-- the bytes of the rows up to the first whose number isn't its place, or of all where there is none
pub record IsNumberedFront (texts : List (List ℕ)) (rows : List RowData) : Type 0 where
  pub front : take (length texts) rows ≡ numbered 0 texts
  pub next : (row : RowData) → slice_get rows (length texts) ≡ Some row → row.n ≢ pos (length texts)
