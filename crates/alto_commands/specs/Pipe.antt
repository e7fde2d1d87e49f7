-- `pipe`: a console is served from a store.
use Rattle.std.specs.Prelude.{◌≡◌, ◌⊎◌, ℕ, true, List, Option, None}
use Rattle.alto_answers.specs.Answers.{client_of}
use Rattle.alto_answers.specs.declared.route.Side.TheVariants as side
use Rattle.alto_book.specs.Book.{Book}
use Rattle.alto_desk.specs.Records.{Backs}
use Rattle.alto_keeper.specs.Stored.{StoredData, Stays, faults_closed}
use Rattle.alto_serve.specs.Connections.{Serves, state}
use Rattle.alto_serve.specs.Events.{Known, at_first}
use Rattle.alto_serve.specs.Turns.{setting_of}
use Rattle.alto_serve.specs.declared.end.End.{End}
use Rattle.alto_commands.specs.Status.{faults_at, status_of}
use Rattle.alto_commands.specs.Stores.{Finds, IsUnopened}

-- a console is one connection, of a client and of the operator, which is served from a book by an office of its own,
-- to an end at which this is known of the office
unfoldable pub ServesConsole : Book → End → Known → Option ℕ → ℕ
    → Option (List ℕ) → Option (List ℕ) → Option (List ℕ) → Option (List ℕ) → Type 0
ServesConsole book ended known time turns left out left' out' =
    Serves ended (setting_of (client_of side.Both None) time true turns)
    (state (at_first book) left out) (state known left' out')

-- a console is served from the book of a desk, and what the desk's keeper holds at the end stands for the book at the
-- end
pub record ServesDesk (clean : Type 0) (book : Book) (ended : End) (time : Option ℕ) (turns : ℕ)
    (held held' : StoredData → Type 0)
    (left out left' out' : Option (List ℕ)) : Type 0 where
  pub known : Known
  pub served : ServesConsole book ended known time turns left out left' out'
  pub kept : clean → Backs held book → Backs held' known.seen

-- a book is found, a console is served from it to an end, whose status is the command's, and what is held stands for
-- the book at the end. A fault of records that was met in a turn is counted, and has no status
pub record IsPiped (clean : Type 0) (result : ℕ) (time : Option ℕ) (turns : ℕ) (held held' : StoredData → Type 0)
    (faults faults' : ℕ)
    (left out left' out' : Option (List ℕ)) : Type 0 where
  pub book : Book
  pub ended : End
  pub known : Known
  pub status : result ≡ status_of ended
  pub found : Finds clean held book
  pub served : ServesConsole book ended known time turns left out left' out'
  pub kept : clean → (stored : StoredData) → held stored → Backs held' known.seen
  pub counted : (met : ℕ) × (faults' ≡ faults_closed met faults)

-- what `pipe` comes to, by what was held at the store and is, by the vault's count of faults, and by the bytes that a
-- console had left and out and has
unfoldable pub Pipes : Type 0 → ℕ → Option ℕ → ℕ → (StoredData → Type 0) → (StoredData → Type 0) → ℕ → ℕ
    → Option (List ℕ) → Option (List ℕ) → Option (List ℕ) → Option (List ℕ) → Type 0
Pipes clean result time turns held held' faults faults' left out left' out' =
    IsPiped clean result time turns held held' faults faults' left out left' out'
    ⊎ (IsUnopened clean held result out out' × (clean → Stays held held') × (faults' ≡ faults_at result faults)
    × (left' ≡ left))
