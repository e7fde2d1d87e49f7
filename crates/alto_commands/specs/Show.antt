-- `show`: the document of a resource is printed.
use Rattle.std.specs.Prelude.{◌⊎◌, ℕ, List, ◌++◌, Option, Some, None, option_map, codes}
use Rattle.serde_json.specs.Written.{compact_text}
use Rattle.alto_book.specs.Book.{Book, rows_of}
use Rattle.alto_keeper.specs.Stored.{StoredData}
use Rattle.alto_rows.specs.Ids.{resource_named}
use Rattle.alto_rows.specs.Rows.{Rows}
use Rattle.edge_patch.specs.Documents.{document}
use Rattle.alto_commands.specs.Reports.{Report, Tells, line_end, says}
use Rattle.alto_commands.specs.Stores.{Finds, IsUnopened}

-- the text of the document of the declared resource that a text names, if it names one
abbrev pub document_named : Rows → List ℕ → Option (List ℕ)
document_named rows text = option_map (λ of. compact_text (document of rows)) (resource_named rows text)

-- what is told of it
abbrev pub show_report : Option (List ℕ) → Report
show_report (Some document) = says 0 (document ++ line_end)
show_report None = says 8 (codes "unknown resource" ++ line_end)

-- a book is found, and the document is shown that a text names in it
pub record IsShown (clean : Type 0) (text : List ℕ) (result : ℕ) (held : StoredData → Type 0)
    (out out' : Option (List ℕ))
    : Type 0 where
  pub book : Book
  pub found : Finds clean held book
  pub told : Tells (show_report (document_named (rows_of book) text)) result out out'

-- what `show` comes to, by what was held at the store
unfoldable pub Shows : Type 0 → List ℕ → ℕ → (StoredData → Type 0) → Option (List ℕ) → Option (List ℕ) → Type 0
Shows clean text result held out out' = IsShown clean text result held out out' ⊎ IsUnopened clean held result out out'
