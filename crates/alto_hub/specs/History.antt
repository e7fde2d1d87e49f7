-- The imports that were answered at a hub since it was opened, and the books that they have led to.
use Rattle.std.specs.Prelude.{ℕ, List, All, fold}
use Rattle.logbook.specs.Pages.{Book as Name}
use Rattle.alto_edits.specs.Edits.{IsEdit}
use Rattle.alto_book.specs.Book.{Book}
use Rattle.alto_book.specs.Import.{Import}
use Rattle.alto_book.specs.Legal.{IsLegal}
use Rattle.alto_serve.specs.Events.{book_after}

-- an import, and the moment when it was answered
abbrev pub Submitted : Type 0
Submitted = Import × ℕ

-- how far a history was reached: which history, and its imports so far
pub record Reached : Type 0 where
  pub name : Name
  pub log : List Submitted

-- the book that imports have led to
unfoldable pub book_at : Book → List Submitted → Book
book_at opening log = fold book_after opening log

-- imports whose edits are edits, at a legal book
pub record IsLog (opening : Book) (log : List Submitted) : Type 0 where
  pub legal : IsLegal opening
  pub edits : All (λ import. All IsEdit import.0.edits) log
