-- What lies under the lock of a hub, and what an edit does to it.
use Rattle.std.specs.Prelude.{◌≡◌, ◌⊎◌, Bool, false, List, [], ◌∷◌, ◌++◌, Result, Ok, Err}
use mathlib.Core.List.{IsPrefix}
use Rattle.logbook.specs.Pages.{Book as Name, Named}
use Rattle.alto_book.specs.Book.{Book}
use Rattle.alto_book.specs.declared.command.Receipt.{Receipt}
use Rattle.alto_book.specs.declared.fault.EditFault.{EditFault}
use Rattle.alto_book.specs.declared.fault.EditFault.TheVariants as fault
use Rattle.alto_hub.specs.History.{Submitted, Reached, IsLog, book_at}
use Rattle.alto_hub.specs.Rules.{head_of}

-- the imports that led to the desk's book, and those that led to the published version
pub record Logs : Type 0 where
  pub log : List Submitted
  pub shown : List Submitted

-- all of them are published
abbrev pub all_shown : List Submitted → Logs
all_shown log = record { log = log; shown = log }

-- the desk's book is the one that the history has led to. What is published is the same, unless a version is owed: then
-- it is an earlier one
pub record IsLocked (name : Name) (opening book : Book) (head : Named) (mark : Reached) (shown : List Submitted)
    (owed : Bool) : Type 0 where
  pub headed : head ≡ head_of name
  pub named : mark.name ≡ name
  pub led : IsLog opening mark.log
  pub same : book ≡ book_at opening mark.log
  pub begins : IsPrefix shown mark.log
  pub whole : owed ≡ false → shown ≡ mark.log

-- how an edit leaves it, by its answer. What was owed is published first. An accepted import is published; out of
-- memory, it is accepted whole or not at all, and its version may be owed
abbrev pub Goes : Logs → Submitted → Result Receipt EditFault → Logs → Type 0
Goes before import (Ok receipt) after = after ≡ all_shown (before.log ++ import ∷ [])
Goes before import (Err fault.Memory) after =
    (after ≡ before) ⊎ (after ≡ all_shown before.log)
    ⊎ (after ≡ record { log = before.log ++ import ∷ []; shown = before.log })
    ⊎ (after ≡ all_shown (before.log ++ import ∷ []))
Goes before import (Err _) after = after ≡ all_shown before.log
