-- What answers take from a version.
use Rattle.alto_book.specs.Book.{Book}
use Rattle.alto_book.specs.Legal.{IsLegal}
use Rattle.alto_versions.specs.Front.{Version, StandsFor}

-- the version of some legal book
abbrev pub IsVersion : Version → Type 0
IsVersion version = (book : Book) × IsLegal book × StandsFor version book
