-- An accepted batch as plain data.
use Rattle.std.specs.Prelude.{ℕ, List}
use Rattle.alto_rows.specs.declared.write.Write.{Write}

-- a batch: the id and the digest of its import, its moment and its writes
pub record Accepted : Type 0 where
  pub id : List ℕ
  pub digest : List ℕ
  pub moment : ℕ
  pub writes : List Write
