-- Records that stand for a book.
use Rattle.std.proofs.Common.{◌≡◌, ◌≢◌, subst}
use Rattle.alto_book.specs.Book.{Book}
use Rattle.alto_desk.specs.Records.{Backs, StoredAs}
use Rattle.alto_desk.proofs.RecordLemmas.{stored_once}
use Rattle.alto_keeper.specs.Stored.{StoredData, Stays}
use Rattle.alto_desk.specs.declared.fault.OpenFault.{OpenFault}
use Rattle.alto_desk.specs.declared.fault.OpenFault.TheVariants as fault
use Rattle.alto_commands.specs.Stores.{Finds, open_report}

-- the book that was opened is the one that was held
pub finds : (clean : Type 0) (held : StoredData → Type 0) (book : Book)
    → (clean → (stored : StoredData) → held stored → StoredAs stored book) → Finds clean held book
unfolding Finds
finds clean held book opened = opened

-- what was held stays, where what is held stands for the book that was found
pub stays_for_book : (clean : Type 0) (held held' : StoredData → Type 0) (book later : Book) → later ≡ book
    → Finds clean held book
    → (clean → (stored : StoredData) → held stored → Backs held' later) → clean → Stays held held'
unfolding Finds
stays_for_book clean held held' book later same found kept is stored was =
    let now = kept is stored was in
    let stands = subst (λ (book : Book). StoredAs now.0 book) same now.2 in
    subst held' (stored_once now.0 stored book stands (found is stored was)) now.1

-- why no book is opened is no fault of a read
pub no_read_unopened : (why : OpenFault) → (open_report why).status ≢ 4
no_read_unopened (fault.Damaged n) = λ is. cc
no_read_unopened (fault.DamagedBase k) = λ is. cc
no_read_unopened (fault.BadBook n rule) = λ is. cc
no_read_unopened fault.Keeper = λ is. cc
no_read_unopened fault.Memory = λ is. cc
