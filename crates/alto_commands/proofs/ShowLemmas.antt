-- What `show` comes to.
use Rattle.std.proofs.Common.{◌≡◌, ℕ, List, ◌++◌, Option, Some, None, option_map, inl, inr}
use Rattle.alto_book.specs.Book.{Book, rows_of}
use Rattle.alto_desk.specs.Opening.{Explains}
use Rattle.alto_desk.specs.declared.fault.OpenFault.{OpenFault}
use Rattle.alto_keeper.specs.Stored.{StoredData}
use Rattle.alto_commands.specs.Reports.{Tells, line_end}
use Rattle.alto_commands.specs.Show.{Shows, document_named, show_report}
use Rattle.alto_commands.specs.Stores.{Finds, open_report}
use Rattle.alto_commands.proofs.ReportLemmas.{told_made}

-- a document is printed
pub shown_some : (bytes : List ℕ) (named : Option (List ℕ)) (result : ℕ) (out out' : Option (List ℕ))
    → Some bytes ≡ option_map (λ text. text ++ line_end) named
    → Tells (record { status = 0; text = bytes }) result out out'
    → Tells (show_report named) result out out'
shown_some bytes (Some document) result out out' same told =
    told_made 0 result out out' bytes (document ++ line_end) (cc) told
shown_some bytes None result out out' same told = absurd cc

-- none is named
pub shown_none : (named : Option (List ℕ)) (result : ℕ) (out out' : Option (List ℕ))
    → None ≡ option_map (λ text. text ++ line_end) named → Tells (show_report None) result out out'
    → Tells (show_report named) result out out'
shown_none None result out out' same told = told
shown_none (Some document) result out out' same told = absurd cc

-- a book is found
pub shows_of_book : (clean : Type 0) (text : List ℕ) (result : ℕ) (held : StoredData → Type 0)
    (out out' : Option (List ℕ)) (book : Book)
    → Finds clean held book → Tells (show_report (document_named (rows_of book) text)) result out out'
    → Shows clean text result held out out'
unfolding Shows
shows_of_book clean text result held out out' book found told = inl (record { book = book; found = found; told = told })

-- none is
pub shows_none : (clean : Type 0) (text : List ℕ) (result : ℕ) (held : StoredData → Type 0) (out out' : Option (List ℕ))
    (why : OpenFault)
    → (clean → (stored : StoredData) → held stored → Explains why stored) → Tells (open_report why) result out out'
    → Shows clean text result held out out'
unfolding Shows
shows_none clean text result held out out' why explained told =
    inr (record { why = why; explained = explained; told = told })
