-- The records that rows of the table are read as.
use Rattle.std.specs.Prelude.{ℕ, ℤ, pos, int_lt, not, List, [], map, filter, reverse}
use Rattle.sqlite.specs.declared.types.Value.{Value}
use Rattle.sqlite.specs.declared.types.Value.TheVariants.{Null, Int, Real, Text, Blob}
use Rattle.sqlite.specs.Order.{Row, column}
use Rattle.sqlite.specs.Tree.{Trees}
use Rattle.alto_keeper.specs.Stored.{RowData, StoredData}
use Rattle.keeper_sqlite.specs.Store.{flipped}

-- a number, 0 where a value is none
abbrev pub number_in : Value → ℤ
number_in Null = pos 0
number_in (Int n) = n
number_in (Real x) = pos 0
number_in (Text t) = pos 0
number_in (Blob b) = pos 0

-- bytes, none where a value isn't a blob
abbrev pub bytes_in : Value → List ℕ
bytes_in Null = []
bytes_in (Int n) = []
bytes_in (Real x) = []
bytes_in (Text t) = []
bytes_in (Blob b) = b

-- the number and the bytes that a row shows
abbrev pub shown_in : Row → RowData
shown_in row = record { n = number_in (column row 0); bytes = bytes_in (column row 1) }

-- those below 0 are pieces of the base, the last first, and the others the rows
abbrev pub stored_in : List RowData → StoredData
stored_in rows = record {
  base = reverse (map flipped (filter (λ row. int_lt row.n (pos 0)) rows));
  rows = filter (λ row. not (int_lt row.n (pos 0))) rows;
}

-- the number and the bytes that stand in a row of the table
abbrev pub record_in : Row → RowData
record_in row = record { n = number_in (column row 0); bytes = bytes_in (column row 2) }

-- the records that stand in the table of a database
abbrev pub records_in : Trees → StoredData
records_in trees = stored_in (map record_in (trees 0))
