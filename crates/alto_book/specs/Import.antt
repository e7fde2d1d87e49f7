-- An import as plain data.
use Rattle.std.specs.Prelude.{ℕ, List}
use Rattle.alto_edits.specs.declared.edit.Edit.{Edit}

-- the id of an import, the digest of its body and its edits
pub record Import : Type 0 where
  pub id : List ℕ
  pub digest : List ℕ
  pub edits : List Edit
