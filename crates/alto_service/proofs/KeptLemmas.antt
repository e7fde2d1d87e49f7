-- What is held once a book was served.
use Rattle.std.proofs.Common.{◌≡◌, Option, Some, None, subst}
use Rattle.std.specs.Prelude.{MatchOption}
use Rattle.alto_book.specs.Book.{Book}
use Rattle.alto_desk.specs.Records.{Backs, StoredAs}
use Rattle.alto_keeper.specs.Stored.{StoredData}
use Rattle.alto_serve.specs.Events.{IsGrown}
use Rattle.alto_serve.proofs.EventLemmas.{grown_itself}
use Rattle.alto_service.specs.Serving.{BacksLater}

-- nobody has had imports accepted
pub backs_itself : (held : StoredData → Type 0) (book : Book) → Backs held book → BacksLater held book
unfolding BacksLater
backs_itself held book backs = (book, grown_itself book, backs)

-- imports have led to another book
pub backs_grown : (held : StoredData → Type 0) (later book : Book) → IsGrown later book → Backs held later
    → BacksLater held book
unfolding BacksLater
backs_grown held later book grown backs = (later, grown, backs)

-- what stands for it is held somewhere else too
pub backs_moved : (held other : StoredData → Type 0) (book : Book) → BacksLater held book
    → ((stored : StoredData) → held stored → other stored) → BacksLater other book
unfolding BacksLater
backs_moved held other book (later, grown, (stored, was, stands)) moved =
    (later, grown, (stored, moved stored was, stands))

-- what holds of a keeper, and what holds where there is none
pub if_some : {T : Type 0} (N : Type 0) (P : T → Type 0) (found : Option T) (x : T) → found ≡ Some x
    → MatchOption found N P → P x
if_some {T} N P found x is all = subst (λ (found : Option T). MatchOption found N P) is all

pub if_none : {T : Type 0} (N : Type 0) (P : T → Type 0) (found : Option T) → found ≡ None
    → MatchOption found N P → N
if_none {T} N P found is all = subst (λ (found : Option T). MatchOption found N P) is all
