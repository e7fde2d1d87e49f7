-- How the one table of a database holds records.
use Rattle.std.specs.Prelude.{◌≡◌, ℕ, pos, ◌-ℤ◌, ◌<ℤ◌, ◌≤ℤ◌, Bool, true, false, Some, codes}
use Rattle.std.specs.Prelude.{List, [], ◌∷◌, ◌++◌, map, reverse}
use Rattle.std.specs.List.{AllByRecursion}
use Rattle.sqlite.specs.Collation.TheVariants.{Binary}
use Rattle.sqlite.specs.declared.types.Value.TheVariants.{Null, Int, Blob as Bytes}
use Rattle.sqlite.specs.Order.{Row}
use Rattle.sqlite_trees.specs.Tree.{IsAscending}
use Rattle.sqlite.specs.Table.{Table}
use Rattle.sqlite_schema.specs.declared.schema.Column.{Column}
use Rattle.sqlite.specs.Schema.{Schema}
use Rattle.sqlite.specs.Kind.{Kind}
use Rattle.sqlite.specs.Kind.TheVariants.{Integer, Blob}
use Rattle.sqlite.specs.Effect.{Database}
use Rattle.alto_keeper.specs.Stored.{RowData, StoredData, numbered}

-- a column of a strict table, and whether it is NOT NULL
abbrev pub column : List ℕ → Kind → Bool → Column
column name kind not_null =
    record { name = name; kind = kind; is_strict = true; not_null = not_null; default = Null; collation = Binary }

-- the table that the text makes
abbrev pub alto_table : Table
alto_table = record {
  name = codes "alto_row";
  tree = 0;
  columns = column (codes "n") Integer false ∷ column (codes "bytes") Blob true ∷ [];
  key = Some 0;
  primary = 0 ∷ [];
  uniques = [];
  orders = [];
  checks = [];
  references = [];
  computed = [];
  stamps = record { places = []; terms = []; formats = [] };
  is_counted = false;
}

-- a database with this table alone
abbrev pub alto_schema : Schema
alto_schema = record { tables = alto_table ∷ []; indexes = []; views = [] }

-- a database with no table
abbrev pub no_schema : Schema
no_schema = record { tables = []; indexes = []; views = [] }

-- a row of the table: its number is its rowid
abbrev pub table_row : RowData → Row
table_row row = Int row.n ∷ Null ∷ Bytes row.bytes ∷ []

-- piece k of the base stands in row −1−k, and is read from there
abbrev pub flipped : RowData → RowData
flipped row = record { n = pos 0 -ℤ pos 1 -ℤ row.n; bytes = row.bytes }

-- the pieces of the base, the last first, and then the rows
abbrev pub all_rows : StoredData → List RowData
all_rows stored = map flipped (reverse stored.base) ++ stored.rows

-- the rows of the table
abbrev pub table_rows : StoredData → List Row
table_rows stored = map table_row (all_rows stored)

-- a database has the table, and the records in it, whose numbers rise
pub record HasRows (db : Database) (stored : StoredData) : Type 0 where
  pub schema : db.schema ≡ alto_schema
  pub rows : db.trees 0 ≡ table_rows stored
  pub base : AllByRecursion (λ piece. pos 0 ≤ℤ piece.n) stored.base
  pub own : AllByRecursion (λ row. pos 0 ≤ℤ row.n) stored.rows
  pub rising : IsAscending (λ row later. row.n <ℤ later.n) (all_rows stored)

-- the rows behind another base, of these pieces
abbrev pub with_base : List (List ℕ) → StoredData → StoredData
with_base pieces stored = record stored { base = numbered 0 pieces }
