-- What lies under the lock of a hub stays in order.
use Rattle.std.proofs.Common.{◌≡◌, Bool, true, false, List, [], ◌∷◌, ◌++◌, All, Err, inl, inr, refl, sym, ap, subst}
use Rattle.std.proofs.Common.{◌∙◌}
use mathlib.Core.List.{IsPrefix}
use Rattle.logbook.specs.Pages.{Book as Name, Named}
use Rattle.alto_edits.specs.Edits.{IsEdit}
use Rattle.alto_book.specs.Acceptance.{accept}
use Rattle.alto_book.specs.Book.{Book}
use Rattle.alto_book.specs.declared.fault.EditFault.{EditFault}
use Rattle.alto_book.specs.declared.fault.EditFault.TheVariants as fault
use Rattle.alto_book.specs.Legal.{IsLegal}
use Rattle.alto_versions.specs.Front.{Version, StandsFor}
use Rattle.alto_hub.specs.Edits.{Goes, IsLocked, Logs, all_shown}
use Rattle.alto_hub.specs.History.{Submitted, Reached}
use Rattle.alto_hub.specs.Rules.{head_of}
use Rattle.alto_hub.specs.Versions.{IsShown}
use Rattle.alto_hub.proofs.HistoryLemmas.{log_none, book_none, log_more, book_more}
use Rattle.alto_hub.proofs.PrefixLemmas.{prefix_more}

-- the desk accepts an import, whose version is owed
pub locked_more : (name : Name) (opening book later : Book) (head : Named) (mark after : Reached)
    (shown : List Submitted) (owed : Bool) (import : Submitted)
    → IsLocked name opening book head mark shown owed → All IsEdit import.0.edits
    → later ≡ (accept book import.0 import.1).book
    → after ≡ record { name = mark.name; log = mark.log ++ import ∷ [] }
    → IsLocked name opening later head after shown true
locked_more name opening book later head mark after shown owed import is edits gained added =
    subst (λ (r : Reached). IsLocked name opening later head r shown true) (sym added) (record {
      headed = is.headed;
      named = is.named;
      led = log_more opening mark.log import is.led edits;
      same = gained ∙ (ap (λ b. (accept b import.0 import.1).book) is.same ∙ sym (book_more opening mark.log import));
      begins = prefix_more shown mark.log (import ∷ []) is.begins;
      whole = λ none. absurd cc;
    })

-- the desk leaves its book
pub locked_stays : (name : Name) (opening book later : Book) (head : Named) (mark : Reached)
    (shown : List Submitted) (owed : Bool)
    → IsLocked name opening book head mark shown owed → later ≡ book → IsLocked name opening later head mark shown owed
locked_stays name opening book later head mark shown owed is same =
    subst (λ (b : Book). IsLocked name opening b head mark shown owed) (sym same) is

-- ---- what an edit leaves

-- an import that is accepted is owed
pub owes : (before first after : Logs) (import : Submitted) → first ≡ all_shown before.log
    → after ≡ record { log = first.log ++ import ∷ []; shown = first.shown }
    → after ≡ record { log = before.log ++ import ∷ []; shown = before.log }
owes before first after import all added =
    let more : Logs → Logs = λ logs. record { log = logs.log ++ import ∷ []; shown = logs.shown } in
    added ∙ ap more all

-- and then published
pub shows : (before first mid after : Logs) (import : Submitted) → first ≡ all_shown before.log
    → mid ≡ record { log = first.log ++ import ∷ []; shown = first.shown } → after ≡ all_shown mid.log
    → after ≡ all_shown (before.log ++ import ∷ [])
shows before first mid after import all added told =
    let whole : Logs → Logs = λ logs. all_shown logs.log in
    told ∙ ap whole (owes before first mid import all added)

-- an import that isn't accepted leaves what was published before
pub goes_refused : (before first after : Logs) (import : Submitted) (why : EditFault)
    → first ≡ all_shown before.log → after ≡ first
    → Goes before import (Err why) after
goes_refused before first after import fault.Memory all same = inr (inl (same ∙ all))
goes_refused before first after import fault.Keeper all same = same ∙ all
goes_refused before first after import (fault.OtherBody n) all same = same ∙ all
goes_refused before first after import (fault.Broken row rule) all same = same ∙ all

-- ---- a hub that is opened

pub shown_first : (name : Name) (opening : Book) (version : Version) (mark : Reached)
    → mark ≡ record { name = name; log = [] } → IsLegal opening
    → StandsFor version opening → IsShown name opening (version, mark)
shown_first name opening version mark new legal stands =
    let none : Reached = record { name = name; log = [] } in
    subst (λ (r : Reached). IsShown name opening (version, r)) (sym new)
    (record {
      named = refl;
      led = log_none opening legal;
      stands = subst (λ (b : Book). StandsFor version b)
          (book_none opening) stands;
    })

pub locked_first : (name : Name) (opening book : Book) (head : Named) (mark : Reached) (shown : List Submitted)
    → book ≡ opening → IsLegal opening
    → head ≡ head_of name → mark ≡ record { name = name; log = [] } → shown ≡ mark.log
    → IsLocked name opening book head mark shown false
locked_first name opening book head mark shown opens legal headed new same =
    let logs : shown ≡ [] = same ∙ ap (λ r. r.log) new in
    subst (λ (r : Reached). IsLocked name opening book head r shown false) (sym new) (record {
      headed = headed;
      named = refl;
      led = log_none opening legal;
      same = opens ∙ book_none opening;
      begins = subst (λ (l : List Submitted). IsPrefix l []) (sym logs) ([], refl);
      whole = λ all. logs;
    })
