-- What a hub publishes: a version, with the history that led to it.
use Rattle.std.specs.Prelude.{◌≡◌, List, fold}
use Rattle.std.specs.Arc.{arc_value}
use Rattle.logbook.specs.Pages.{Book as Name}
use Rattle.alto_book.specs.Book.{Book}
use Rattle.alto_versions.specs.Front.{Version, StandsFor}
use Rattle.alto_hub.specs.History.{Submitted, Reached, IsLog, book_at}
use Rattle.alto_hub.specs.declared.published.Published.{Published}

-- the version, and how far its history was reached
abbrev pub shown_of : Published → Version × Reached
shown_of published = (arc_value published.front, published.mark)

-- the imports that led to it
abbrev pub log_of : Published → List Submitted
log_of published = published.mark.log

-- what is shown once versions are published one after another: the last of them
abbrev pub last_shown : Version × Reached → List Published → Version × Reached
last_shown shown pending = fold (λ _ published. shown_of published) shown pending

-- a version stands for the book that the imports of its history have led to
pub record IsShown (name : Name) (opening : Book) (shown : Version × Reached) : Type 0 where
  pub named : shown.1.name ≡ name
  pub led : IsLog opening shown.1.log
  pub stands : StandsFor shown.0 (book_at opening shown.1.log)
