-- What a place has seen of what a hub publishes, and its looks.
use Rattle.std.specs.Prelude.{ℕ, ◌≡◌, List, [], ◌∷◌, ◌++◌}
use mathlib.Core.Option.{some}
use mathlib.Core.List.{IsPrefix}
use lib.ListN.{get_elem?}
use Rattle.alto_book.specs.Book.{Book, number_of}
use Rattle.alto_http.specs.Link.{one_more}
use Rattle.alto_serve.specs.Events.{Known}
use Rattle.alto_hub.specs.History.{Submitted, IsLog, book_at}
use Rattle.alto_hub.specs.declared.view.View.{View}

-- what a new place knows
abbrev pub newcomer : View
newcomer = record { seen = []; looks = 0; numbers = [] }

-- all imports that a place has seen are the first of those that are published
unfoldable pub AreKept : List Submitted → List View → Type 0
AreKept log views = (seat : ℕ) (v : View) → get_elem? views seat ≡ some v → IsPrefix v.seen log

-- what a place knows once it has looked at the book of these imports, whose number is listed
abbrev pub after_look : Book → View → List Submitted → View
after_look opening v log =
    record { seen = log; looks = one_more v.looks; numbers = v.numbers ++ number_of (book_at opening log) ∷ [] }

-- once it has entered that book, to have an import accepted there
abbrev pub after_entry : View → List Submitted → View
after_entry v log = record { seen = log; looks = one_more v.looks; numbers = v.numbers }

-- once it has learned what became of its import
abbrev pub after_lesson : View → List Submitted → View
after_lesson v log = record { seen = log; looks = v.looks; numbers = v.numbers }

-- a place came to see imports, which begin with those that it had seen
pub record Sees (opening : Book) (after : View → List Submitted → View) (before : View) (log : List Submitted)
    (now : View) : Type 0 where
  pub led : IsLog opening log
  pub begins : IsPrefix before.seen log
  pub known : now ≡ after before log

-- what is known of a seat, by what its place knows, the count of its waits and that of the faults of its records
abbrev pub known_at : Book → View → ℕ → ℕ → Known
known_at opening v waits faults = record {
  seen = book_at opening v.seen;
  looks = v.looks;
  waits = waits;
  faults = faults;
  looked_at = v.numbers;
}
