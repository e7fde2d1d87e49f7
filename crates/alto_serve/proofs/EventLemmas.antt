-- Events one after another.
use Rattle.std.proofs.Common.{◌≡◌, ℕ, All, Bool, List, [], ◌∷◌, ◌++◌, fold, refl, sym, ap, ◌∙◌, subst, inl, inr}
use Rattle.std.proofs.Common.{append_assoc, append-nil}
use Rattle.std.proofs.lemmas.List.Sums.{fold-append}
use Rattle.std.proofs.lemmas.List.Elements.{All-append, All-cons, All-head, All-nil, All-tail}
use Rattle.alto_edits.specs.Edits.{IsEdit}
use Rattle.alto_book.specs.Acceptance.{accept}
use Rattle.alto_book.specs.Book.{Book, Extends}
use Rattle.alto_book.specs.Import.{Import}
use Rattle.alto_book.specs.Legal.{IsLegal}
use Rattle.alto_book.proofs.AcceptanceLemmas.{accept_extends, accept_legal, extends_itself, extends_on}
use Rattle.alto_serve.specs.Events.{Event, looked, entered, submitted, wrote, Known, known_after, MayHappen, IsGrown}
use Rattle.alto_serve.specs.Events.{IsHistory, Emits, PrefixOf, book_after, bytes_in}

-- ---- books

-- the fields of an import's edits are in range
abbrev IsInRange : Import × ℕ → Type 0
IsInRange import = All IsEdit import.0.edits

pub grown_itself : (book : Book) → IsGrown book book
grown_itself book = record { imports = []; edits = All-nil IsInRange; whole = refl }

pub grown_on : (first second third : Book) → IsGrown second first → IsGrown third second → IsGrown third first
grown_on first second third a b = record {
  imports = a.imports ++ b.imports;
  edits = All-append IsInRange a.imports b.imports a.edits b.edits;
  whole = b.whole ∙ ap (λ book. fold book_after book b.imports) a.whole
      ∙ sym (fold-append book_after first a.imports b.imports);
}

-- a book that grew from a legal one is legal, and extends it
grown_so : (book : Book) (imports : List (Import × ℕ)) → All IsInRange imports → IsLegal book
    → IsLegal (fold book_after book imports) × Extends (fold book_after book imports) book
grown_so book [] edits legal = (legal, extends_itself book)
grown_so book ((import, moment) ∷ imports) edits legal =
    let one = accept_legal book import moment legal (All-head IsInRange (import, moment) imports edits) in
    let more = All-tail IsInRange (import, moment) imports edits in
    let rest = grown_so (accept book import moment).book imports more one in
    (rest.0, extends_on _ _ _ (accept_extends book import moment) rest.1)

pub grown_legal : (later earlier : Book) → IsGrown later earlier → IsLegal earlier
    → IsLegal later × Extends later earlier
grown_legal later earlier grown legal = rw grown.whole (grown_so earlier grown.imports grown.edits legal)

-- books only grow
step_grown : (alone : Bool) (known : Known) (event : Event) → MayHappen alone known.seen event
    → IsGrown (known_after alone known event).seen known.seen
step_grown alone known (looked book) may = may.grown
step_grown alone known (entered book) may = may.grown
step_grown alone known (submitted import moment answer book) (inl (edits, is, look)) = record {
  imports = (import, moment) ∷ look.grown.imports;
  edits = All-cons IsInRange (import, moment) look.grown.imports edits look.grown.edits;
  whole = look.grown.whole;
}
step_grown alone known (submitted import moment answer book) (inr (is, look)) = look.grown
step_grown alone known _ may = grown_itself known.seen

pub history_grown : (alone : Bool) (known : Known) (events : List Event) → IsHistory alone known events
    → IsGrown (fold (known_after alone) known events).seen known.seen
history_grown alone known [] may = grown_itself known.seen
history_grown alone known (event ∷ events) may =
    grown_on _ _ _ (step_grown alone known event may.0)
    (history_grown alone (known_after alone known event) events may.1)

pub emits_grown : (alone : Bool) (P : List Event → Type 0) (before after : Known) → Emits alone P before after
    → IsGrown after.seen before.seen
emits_grown alone P before after (events, may, is, holds) = rw is (history_grown alone before events may)

-- ---- one after another

-- what may happen, and then may happen from there
history_append : (alone : Bool) (known : Known) (xs ys : List Event) → IsHistory alone known xs
    → IsHistory alone (fold (known_after alone) known xs) ys → IsHistory alone known (xs ++ ys)
history_append alone known [] ys first second = second
history_append alone known (x ∷ xs) ys first second =
    (first.0, history_append alone (known_after alone known x) xs ys first.1 second)

pub history_behind : (alone : Bool) (known : Known) (xs ys : List Event) → IsHistory alone known (xs ++ ys)
    → IsHistory alone (fold (known_after alone) known xs) ys
history_behind alone known [] ys may = may
history_behind alone known (x ∷ xs) ys may = history_behind alone (known_after alone known x) xs ys may.1

-- first this and then that
pub emits_on : (alone : Bool) (P Q R : List Event → Type 0) (before mid after : Known)
    → Emits alone P before mid → Emits alone Q mid after
    → ((xs ys : List Event) → P xs → Q ys → R (xs ++ ys)) → Emits alone R before after
emits_on alone P Q R before mid after (xs, may, is, first) (ys, may', is', second) both = (
  xs ++ ys,
  history_append alone before xs ys may (subst (λ (known : Known). IsHistory alone known ys) is may'),
  is' ∙ ap (λ known. fold (known_after alone) known ys) is ∙ sym (fold-append (known_after alone) before xs ys),
  both xs ys first second,
)

-- ---- prefixes

-- all of them are a prefix
pub prefix_whole : (P : List Event → Type 0) (events : List Event) → P events → PrefixOf P events
prefix_whole P events holds = ([], subst P (sym (append-nil events)) holds)

-- a prefix behind what happened before
pub prefix_on : (P Q : List Event → Type 0) (before events : List Event) → PrefixOf P events
    → ((xs : List Event) → P xs → Q (before ++ xs)) → PrefixOf Q (before ++ events)
prefix_on P Q before events (rest, holds) on =
    (rest, subst Q (sym (append_assoc before events rest)) (on (events ++ rest) holds))

-- ---- bytes

pub bytes_append : (xs ys : List Event) → bytes_in (xs ++ ys) ≡ bytes_in xs ++ bytes_in ys
bytes_append [] ys = refl
bytes_append (wrote bytes ∷ xs) ys =
    ap (λ bs. bytes ++ bs) (bytes_append xs ys) ∙ sym (append_assoc bytes (bytes_in xs) (bytes_in ys))
bytes_append (_ ∷ xs) ys = bytes_append xs ys
