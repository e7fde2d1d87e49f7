-- What `trim` comes to.
use Rattle.std.proofs.Common.{◌≡◌, ℕ, List, Option, Result, Ok, Err, IfOk, OnOk, OnErr, sym, ◌∙◌, ap, inl, inr}
use Rattle.alto_book.specs.Book.{Book}
use Rattle.alto_desk.specs.Counts.{after_trim}
use Rattle.alto_desk.specs.Opening.{Explains}
use Rattle.alto_desk.specs.Trim.{trim, trim_number}
use Rattle.alto_desk.specs.declared.fault.OpenFault.{OpenFault}
use Rattle.alto_desk.specs.declared.fault.TrimFault.{TrimFault}
use Rattle.alto_desk.specs.declared.fault.TrimFault.TheVariants as fault
use Rattle.alto_keeper.specs.Stored.{StoredData, Stays, faults_closed}
use Rattle.alto_commands.specs.Reports.{Tells}
use Rattle.alto_commands.specs.Status.{faults_at}
use Rattle.alto_commands.specs.Stores.{open_report}
use Rattle.alto_commands.specs.Trim.{IsTrimmed, Moves, Trims}

-- a desk's answer tells the book
pub moves_so : (r : Result ℕ TrimFault) (keep : ℕ) (book later : Book)
    → IfOk r (λ number. number ≡ trim_number book keep)
    → OnOk r (later ≡ trim book (trim_number book keep)) → OnErr r (later ≡ book) → Moves keep book r later
moves_so (Ok number) keep book later told gained stayed = (told, gained ∙ ap (trim book) (sym told))
moves_so (Err why) keep book later told gained stayed = stayed

-- a vault's count, where a keeper's was none before: one more exactly where the status is a fault of the vault
pub trim_closed : (r : Result ℕ TrimFault) (result counted n : ℕ) → counted ≡ after_trim r 0
    → ((m : ℕ) → after_trim r m ≡ faults_at result m) → faults_closed counted n ≡ faults_at result n
trim_closed (Ok number) result counted n count told = rw count (told n)
trim_closed (Err fault.Keeper) result counted n count told = rw count (told n)
trim_closed (Err fault.Memory) result counted n count told = rw count (told n)

-- a book is found
pub trims_so : (clean : Type 0) (keep result : ℕ) (held held' : StoredData → Type 0) (out out' : Option (List ℕ))
    → IsTrimmed clean keep result held held' out out' → Trims clean keep result held held' out out'
unfolding Trims
trims_so clean keep result held held' out out' trimmed = inl trimmed

-- none is
pub trims_none : (clean : Type 0) (keep result : ℕ) (held held' : StoredData → Type 0) (out out' : Option (List ℕ))
    (why : OpenFault)
    → (clean → (stored : StoredData) → held stored → Explains why stored) → Tells (open_report why) result out out'
    → (clean → Stays held held') → Trims clean keep result held held' out out'
unfolding Trims
trims_none clean keep result held held' out out' why explained told stays =
    inr (record { why = why; explained = explained; told = told }, stays)
