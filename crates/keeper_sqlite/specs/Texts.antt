-- The statements on the one table of a store.
use Rattle.std.specs.Prelude.{ℕ, List, codes}

-- asks nothing of a database but whether it is open
abbrev pub probe_text : List ℕ
probe_text = codes "SELECT 1"

-- makes the table
abbrev pub create_text : List ℕ
create_text = codes "CREATE TABLE IF NOT EXISTS alto_row (n INTEGER PRIMARY KEY, bytes BLOB NOT NULL) STRICT"

-- shows all rows
abbrev pub select_text : List ℕ
select_text = codes "SELECT n, bytes FROM alto_row ORDER BY n"

-- adds a row
abbrev pub insert_text : List ℕ
insert_text = codes "INSERT INTO alto_row (n, bytes) VALUES (?1, ?2)"

-- takes away what a base takes in, and the base before it
abbrev pub delete_text : List ℕ
delete_text = codes "DELETE FROM alto_row WHERE n <= ?1 AND n <> 0"
