-- The books that imports lead to are legal, and only grow.
use Rattle.std.proofs.Common.{◌≡◌, All, List, [], ◌∷◌, ◌++◌, fold, refl, sym, subst}
use Rattle.std.proofs.lemmas.List.Elements.{All-nil, All-head, All-tail, All-push}
use Rattle.std.proofs.lemmas.List.Sums.{fold-append}
use mathlib.Core.List.{IsPrefix}
use Rattle.alto_edits.specs.Edits.{IsEdit}
use Rattle.alto_book.specs.Acceptance.{accept}
use Rattle.alto_book.specs.Book.{Book}
use Rattle.alto_book.specs.Legal.{IsLegal}
use Rattle.alto_book.proofs.AcceptanceLemmas.{accept_legal}
use Rattle.alto_serve.specs.Events.{IsGrown, book_after}
use Rattle.alto_hub.specs.History.{Submitted, IsLog, book_at}

abbrev AreEdits : Submitted → Type 0
AreEdits import = All IsEdit import.0.edits

all_behind : {A : Type 0} (P : A → Type 0) (xs ys : List A) → All P (xs ++ ys) → All P ys
all_behind P [] ys all = all
all_behind P (x ∷ xs) ys all = all_behind P xs ys (All-tail P x (xs ++ ys) all)

legal_after : (book : Book) (log : List Submitted) → IsLegal book → All AreEdits log
    → IsLegal (fold book_after book log)
legal_after book [] legal edits = legal
legal_after book ((import, moment) ∷ log) legal edits =
    legal_after (accept book import moment).book log
    (accept_legal book import moment legal (All-head AreEdits (import, moment) log edits))
    (All-tail AreEdits (import, moment) log edits)

pub book_legal : (opening : Book) (log : List Submitted) → IsLog opening log → IsLegal (book_at opening log)
unfolding book_at
book_legal opening log led = legal_after opening log led.legal led.edits

-- no imports lead to the opening book
pub log_none : (opening : Book) → IsLegal opening → IsLog opening []
log_none opening legal = record { legal = legal; edits = All-nil AreEdits }

pub book_none : (opening : Book) → opening ≡ book_at opening []
unfolding book_at
book_none opening = refl

-- one import more
pub log_more : (opening : Book) (log : List Submitted) (import : Submitted) → IsLog opening log
    → All IsEdit import.0.edits → IsLog opening (log ++ import ∷ [])
log_more opening log import led edits =
    record { legal = led.legal; edits = All-push AreEdits log import led.edits edits }

pub book_more : (opening : Book) (log : List Submitted) (import : Submitted)
    → book_at opening (log ++ import ∷ []) ≡ (accept (book_at opening log) import.0 import.1).book
unfolding book_at
book_more opening log import = fold-append book_after opening log (import ∷ [])

-- a book grew from the one of the first imports
pub grown_since : (opening : Book) (seen log : List Submitted) → IsLog opening log → IsPrefix seen log
    → IsGrown (book_at opening log) (book_at opening seen)
unfolding book_at
grown_since opening seen log led (rest, whole) = record {
  imports = rest;
  edits = all_behind AreEdits seen rest (subst (λ (l : List Submitted). All AreEdits l) (sym whole) led.edits);
  whole = subst (λ (l : List Submitted). fold book_after opening l ≡ fold book_after (fold book_after opening seen)
      rest) whole (fold-append book_after opening seen rest);
}

pub grown_since_opening : (opening : Book) (log : List Submitted) → IsLog opening log
    → IsGrown (book_at opening log) opening
unfolding book_at
grown_since_opening opening log led = grown_since opening [] log led (log, refl)
