-- A console that is served from a book.
use Rattle.std.proofs.Common.{◌≡◌, ℕ, true, List, [], Option, None, refl, subst, inl, inr}
use Rattle.alto_answers.specs.Answers.{client_of}
use Rattle.alto_answers.specs.declared.route.Side.TheVariants as side
use Rattle.alto_book.specs.Book.{Book}
use Rattle.alto_serve.specs.Connections.{Serves, state}
use Rattle.alto_serve.specs.Events.{Known, at_first}
use Rattle.alto_serve.specs.Turns.{setting_of}
use Rattle.alto_serve.specs.declared.end.End.{End}
use Rattle.alto_desk.specs.Opening.{Explains}
use Rattle.alto_desk.specs.declared.fault.OpenFault.{OpenFault}
use Rattle.alto_keeper.specs.Stored.{StoredData, Stays}
use Rattle.alto_commands.specs.Pipe.{IsPiped, Pipes, ServesConsole}
use Rattle.alto_commands.specs.Reports.{Tells}
use Rattle.alto_commands.specs.Status.{faults_at}
use Rattle.alto_commands.specs.Stores.{open_report}

-- an office that knows the book alone serves from it
pub served_from : (book : Book) (ended : End) (first known : Known) (time : Option ℕ) (turns : ℕ)
    (left out left' out' : Option (List ℕ))
    → first ≡ at_first book
    → Serves ended (setting_of (client_of side.Both None) time true turns) (state first left out)
    (state known left' out')
    → ServesConsole book ended known time turns left out left' out'
unfolding ServesConsole
served_from book ended first known time turns left out left' out' new served =
    subst (λ (first : Known). Serves ended (setting_of (client_of side.Both None) time true turns)
    (state first left out) (state known left' out'))
    new served

-- a new office knows the book that it is over
pub new_office : (book seen : Book) (looks waits faults : ℕ) → seen ≡ book → looks ≡ 0 → waits ≡ 0 → faults ≡ 0
    → record { seen = seen; looks = looks; waits = waits; faults = faults; looked_at = [] } ≡ at_first book
new_office book seen looks waits faults same no_look no_wait no_fault = rw (same, no_look, no_wait, no_fault) refl

-- a console is served
pub pipes_so : (clean : Type 0) (result : ℕ) (time : Option ℕ) (turns : ℕ) (held held' : StoredData → Type 0)
    (faults faults' : ℕ)
    (left out left' out' : Option (List ℕ))
    → IsPiped clean result time turns held held' faults faults' left out left' out'
    → Pipes clean result time turns held held' faults faults' left out left' out'
unfolding Pipes
pipes_so clean result time turns held held' faults faults' left out left' out' piped = inl piped

-- no book is opened
pub pipes_none : (clean : Type 0) (result : ℕ) (time : Option ℕ) (turns : ℕ) (held held' : StoredData → Type 0)
    (faults faults' : ℕ)
    (left out left' out' : Option (List ℕ)) (why : OpenFault)
    → (clean → (stored : StoredData) → held stored → Explains why stored) → Tells (open_report why) result out out'
    → (clean → Stays held held') → faults' ≡ faults_at result faults → left' ≡ left
    → Pipes clean result time turns held held' faults faults' left out left' out'
unfolding Pipes
pipes_none clean result time turns held held' faults faults' left out left' out' why explained told stays counted same =
    inr (record { why = why; explained = explained; told = told }, stays, counted, same)
