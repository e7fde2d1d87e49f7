-- Imports one after another, and the books after them.
use Rattle.std.specs.Prelude.{ℕ, List, [], ◌∷◌, ◌++◌, fold, codes}
use Rattle.alto_edits.specs.declared.edit.Edit.{Edit}
use Rattle.alto_edits.specs.declared.edit.Edit.TheVariants as edit
use Rattle.alto_book.specs.Acceptance.{accept}
use Rattle.alto_book.specs.Book.{Book, opening_book}
use Rattle.alto_book.specs.Import.{Import}

-- an import of these edits, whose body has this digest
abbrev pub import : List ℕ → List ℕ → List Edit → Import
import id digest edits = record { id = id; digest = digest; edits = edits }

-- a book after imports, which come at the moment 100
abbrev pub book_after : Book → List Import → Book
book_after book imports = fold (λ book import. (accept book import 100).book) book imports

-- a network is declared
abbrev pub first_import : Import
first_import = import (codes "i1") (codes "digest 1") (edit.NetAdd (codes "metro") ∷ [])

-- a PID of the network is declared
abbrev pub pid_import : List ℕ → List ℕ → Import
pid_import id pid = import id (codes "digest of " ++ id) (edit.PidAdd (codes "metro") pid ∷ [])

-- a network, and one after another three of its PIDs
abbrev pub story : List Import
story =
    first_import
    ∷ pid_import (codes "i2") (codes "east")
    ∷ pid_import (codes "i3") (codes "west")
    ∷ pid_import (codes "i4") (codes "south")
    ∷ []

-- the book after the story, which keeps up to this many numbers of a resource
unfoldable pub metro_book : ℕ → Book
metro_book window = book_after (opening_book (codes "e1") window) story
