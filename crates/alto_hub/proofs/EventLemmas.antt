-- What a seat does, as events.
use Rattle.std.proofs.Common.{◌≡◌, ◌≢◌, ◌⊎◌, ℕ, false, List, [], ◌∷◌, ◌++◌, Result, Ok, Err, All, refl, sym, ap, subst}
use Rattle.std.proofs.Common.{inl, inr}
use mathlib.Core.List.{IsPrefix}
use Rattle.alto_edits.specs.Edits.{IsEdit}
use Rattle.alto_book.specs.Acceptance.{accept}
use Rattle.alto_book.specs.Book.{Book}
use Rattle.alto_book.specs.declared.command.Receipt.{Receipt}
use Rattle.alto_book.specs.declared.fault.EditFault.{EditFault}
use Rattle.alto_book.specs.declared.fault.EditFault.TheVariants as fault
use Rattle.alto_book.proofs.AcceptanceLemmas.{refused_leaves}
use Rattle.alto_desk.specs.Counts.{after_edit}
use Rattle.alto_http.specs.Link.{one_more}
use Rattle.alto_serve.proofs.EventLemmas.{grown_itself}
use Rattle.alto_serve.specs.Events.{looked, entered, submitted, waited, IsLook, Emits, IsSubmitted, OneLook, OneWait}
use Rattle.alto_serve.specs.Events.{PrefixOf, Submits}
use Rattle.alto_hub.specs.History.{Submitted, IsLog, book_at}
use Rattle.alto_hub.specs.Seen.{Sees, after_look, after_entry, after_lesson, known_at}
use Rattle.alto_hub.specs.declared.view.View.{View}
use Rattle.alto_hub.proofs.HistoryLemmas.{book_legal, book_more, grown_since}

-- ---- books that may be seen

pub sees_so : (opening : Book) (after : View → List Submitted → View) (v w : View) (log same : List Submitted)
    → log ≡ same → Sees opening after v log w
    → Sees opening after v same w
sees_so opening after v w log same is sees = subst (λ (l : List Submitted). Sees opening after v l w) is sees

look_on : (opening : Book) (seen log : List Submitted) → IsLog opening log → IsPrefix seen log
    → IsLook false (book_at opening seen) (book_at opening log)
look_on opening seen log led begins =
    record {
      legal = book_legal opening log led;
      grown = grown_since opening seen log led begins;
      same = λ is. absurd cc;
    }

-- the book that other words give
look_same : (opening book : Book) (log : List Submitted) → IsLog opening log → book ≡ book_at opening log
    → IsLook false book (book_at opening log)
look_same opening book log led same =
    record {
      legal = book_legal opening log led;
      grown = rw same (grown_itself (book_at opening log));
      same = λ is. absurd cc;
    }

pub stays_unentered : (opening : Book) (v : View) → IsLog opening v.seen
    → IsLook false (book_at opening v.seen) (book_at opening v.seen)
stays_unentered opening v led = look_same opening (book_at opening v.seen) v.seen led refl

pub stays_entered : (opening : Book) (v w : View) (log : List Submitted) → Sees opening after_entry v log w
    → IsLook false (book_at opening v.seen) (book_at opening w.seen)
stays_entered opening v w log sees =
    subst (λ (u : View). IsLook false (book_at opening v.seen) (book_at opening u.seen)) (sym sees.known)
    (look_on opening v.seen log sees.led sees.begins)

-- ---- looks and waits

pub seat_looks : (opening : Book) (v w : View) (log : List Submitted) (waits faults : ℕ)
    → Sees opening (after_look opening) v log w
    → Emits false (OneLook (book_at opening w.seen)) (known_at opening v waits faults) (known_at opening w waits faults)
seat_looks opening v w log waits faults sees =
    subst (λ (u : View). Emits false (OneLook (book_at opening u.seen)) (known_at opening v waits faults)
    (known_at opening u waits faults)) (sym sees.known) (
      looked (book_at opening log) ∷ [],
      (look_on opening v.seen log sees.led sees.begins, tt),
      refl,
      refl,
    )

-- out of memory, it has looked or not
pub seat_lost_look : (opening : Book) (v w : View) (log : List Submitted) (waits faults : ℕ)
    → (w ≡ v) ⊎ Sees opening (after_look opening) v log w
    → Emits false (PrefixOf (OneLook (book_at opening w.seen))) (known_at opening v waits faults)
    (known_at opening w waits faults)
seat_lost_look opening v w log waits faults (inl same) =
    ([], tt, rw same refl, (looked (book_at opening w.seen) ∷ [], refl))
seat_lost_look opening v w log waits faults (inr sees) =
    let one = seat_looks opening v w log waits faults sees in
    (one.0, one.1, one.2, ([], rw one.3 refl))

pub seat_waits : (opening : Book) (v : View) (waits after faults n : ℕ) → after ≡ one_more waits
    → Emits false (OneWait n) (known_at opening v waits faults) (known_at opening v after faults)
seat_waits opening v waits after faults n more =
    (waited n ∷ [], (tt, tt), ap (λ k. known_at opening v k faults) more, refl)

-- ---- imports

-- an import is accepted, and the place learns of it
pub seat_accepted : (opening : Book) (v mid w : View) (log : List Submitted) (import : Submitted) (receipt : Receipt)
    (waits faults counted : ℕ)
    → Sees opening after_entry v log mid → Sees opening after_lesson mid (log ++ import ∷ []) w
    → All IsEdit import.0.edits → (accept (book_at opening log) import.0 import.1).answer ≡ Ok receipt
    → counted ≡ faults
    → Emits false (Submits import.0 import.1 (Ok receipt)) (known_at opening v waits faults)
    (known_at opening w waits counted)
seat_accepted opening v mid w log import receipt waits faults counted entry lesson edits answered none =
    let book = book_at opening log in
    let after = log ++ import ∷ [] in (
      entered book ∷ submitted import.0 import.1 (Ok receipt) (book_at opening after) ∷ [],
      (
        look_on opening v.seen log entry.led entry.begins,
        (
          inl (
            edits,
            answered,
            look_same opening (accept book import.0 import.1).book after
                lesson.led (sym (book_more opening log import)),
          ),
          tt,
        ),
      ),
      rw (lesson.known, entry.known, none) refl,
      (book, book_at opening after, refl),
    )

-- an import is refused, and the book stays
refused : (opening : Book) (v w : View) (log : List Submitted) (import : Submitted) (why : EditFault)
    (waits faults counted : ℕ)
    → Sees opening after_entry v log w → All IsEdit import.0.edits
    → (accept (book_at opening log) import.0 import.1).answer ≡ Err why
    → counted ≡ after_edit {T = Receipt} (Err why) faults
    → Emits false (Submits import.0 import.1 (Err why)) (known_at opening v waits faults)
    (known_at opening w waits counted)
refused opening v w log import why waits faults counted entry edits answered count =
    let book = book_at opening log in (
      entered book ∷ submitted import.0 import.1 (Err why) book ∷ [],
      (
        look_on opening v.seen log entry.led entry.begins,
        (
          inl (
            edits,
            answered,
            look_same opening (accept book import.0 import.1).book log
                entry.led (refused_leaves book import.0 import.1 why answered),
          ),
          tt,
        ),
      ),
      rw (entry.known, count) refl,
      (book, book, refl),
    )

-- its batch couldn't be kept
unkept : (opening : Book) (v w : View) (log : List Submitted) (import : Submitted) (waits faults counted : ℕ)
    → Sees opening after_entry v log w → counted ≡ one_more faults
    → Emits false (Submits import.0 import.1 (Err fault.Keeper)) (known_at opening v waits faults)
    (known_at opening w waits counted)
unkept opening v w log import waits faults counted entry one =
    let book = book_at opening log in (
      entered book ∷ submitted import.0 import.1 (Err fault.Keeper) book ∷ [],
      (look_on opening v.seen log entry.led entry.begins, (inr (refl, look_same opening book log entry.led refl), tt)),
      rw (entry.known, one) refl,
      (book, book, refl),
    )

pub seat_refused : (opening : Book) (v w : View) (log : List Submitted) (import : Submitted) (why : EditFault)
    (waits faults counted : ℕ)
    → Sees opening after_entry v log w → All IsEdit import.0.edits
    → (why ≢ fault.Memory → why ≢ fault.Keeper → (accept (book_at opening log) import.0 import.1).answer ≡ Err why)
    → counted ≡ after_edit {T = Receipt} (Err why) faults → why ≢ fault.Memory
    → Emits false (Submits import.0 import.1 (Err why)) (known_at opening v waits faults)
    (known_at opening w waits counted)
seat_refused opening v w log import fault.Keeper waits faults counted entry edits told count other =
    unkept opening v w log import waits faults counted entry count
seat_refused opening v w log import fault.Memory waits faults counted entry edits told count other = absurd (other refl)
seat_refused opening v w log import (fault.OtherBody n) waits faults counted entry edits told count other =
    refused opening v w log import (fault.OtherBody n) waits faults counted entry edits (told other (λ is. cc)) count
seat_refused opening v w log import (fault.Broken row rule) waits faults counted entry edits told count other =
    refused opening v w log import (fault.Broken row rule) waits faults counted entry
    edits (told other (λ is. cc)) count

-- ---- out of memory

pub uncounted : (r : Result Receipt EditFault) (faults counted : ℕ) → r ≡ Err fault.Memory
    → counted ≡ after_edit r faults → counted ≡ faults
uncounted r faults counted is count = rw is at count

pub lost_unentered : (opening : Book) (v : View) (import : Submitted) (waits faults : ℕ)
    → Emits false (PrefixOf (IsSubmitted import.0 import.1)) (known_at opening v waits faults)
    (known_at opening v waits faults)
lost_unentered opening v import waits faults = (
  [],
  tt,
  refl,
  (
    entered opening ∷ submitted import.0 import.1 (Err fault.Keeper) opening ∷ [],
    (Err fault.Keeper, (opening, opening, refl)),
  ),
)

pub lost_entered : (opening : Book) (v w : View) (log : List Submitted) (import : Submitted) (waits faults counted : ℕ)
    → Sees opening after_entry v log w → counted ≡ faults
    → Emits false (PrefixOf (IsSubmitted import.0 import.1)) (known_at opening v waits faults)
    (known_at opening w waits counted)
lost_entered opening v w log import waits faults counted entry none =
    let book = book_at opening log in (
      entered book ∷ [],
      (look_on opening v.seen log entry.led entry.begins, tt),
      rw (entry.known, none) refl,
      (submitted import.0 import.1 (Err fault.Keeper) book ∷ [], (Err fault.Keeper, (book, book, refl))),
    )
