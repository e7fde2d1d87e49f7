-- What becomes of an import.
use Rattle.std.proofs.Common.{◌≡◌, ◌≢◌, ℕ, List, Option, Result, Ok, Err, IfOk, IfErr, OnOk, OnErr, refl, sym, ◌∙◌, inl}
use Rattle.std.proofs.Common.{inr}
use Rattle.alto_book.specs.Acceptance.{Outcome, accept}
use Rattle.alto_book.specs.Book.{Book}
use Rattle.alto_book.specs.Import.{Import}
use Rattle.alto_book.specs.declared.command.Receipt.{Receipt}
use Rattle.alto_book.specs.declared.fault.EditFault.{EditFault}
use Rattle.alto_book.specs.declared.fault.EditFault.TheVariants as edit_fault
use Rattle.alto_book.proofs.AcceptanceLemmas.{refused_leaves}
use Rattle.alto_desk.specs.Opening.{Explains}
use Rattle.alto_desk.specs.declared.fault.OpenFault.{OpenFault}
use Rattle.alto_keeper.specs.Stored.{StoredData, Stays, faults_closed}
use Rattle.edit_forms.specs.declared.fault.FormFault.TheVariants as form_fault
use Rattle.edit_forms.specs.declared.form.Form.{Form}
use Rattle.alto_commands.specs.Import.{Decides, Imports, IsDecided, IsImported, IsUnmade, Takes, faults_after}
use Rattle.alto_commands.specs.Import.{import_report}
use Rattle.alto_commands.specs.Reports.{Tells}
use Rattle.alto_commands.specs.Status.{faults_at}
use Rattle.alto_commands.specs.Stores.{open_report}
use Rattle.alto_commands.specs.declared.fault.BodyFault.TheVariants as body_fault
use Rattle.alto_commands.specs.declared.fault.ImportFault.{ImportFault}
use Rattle.alto_commands.specs.declared.fault.ImportFault.TheVariants as import_fault

-- an outcome of an answer and a book
outcome_is : (outcome : Outcome) (answer : Result Receipt EditFault) (later : Book) → outcome.answer ≡ answer
    → later ≡ outcome.book
    → outcome ≡ record { answer = answer; book = later }
outcome_is outcome answer later answered same = rw (← answered, same) refl

-- a desk's answer is acceptance's, or tells that the batch couldn't be kept
pub decided_so : (r : Result Receipt EditFault) (book later : Book) (import : Import) (moment : ℕ)
    → IfOk r (λ receipt. (accept book import moment).answer ≡ Ok receipt)
    → OnOk r (later ≡ (accept book import moment).book)
    → IfErr r (λ why. why ≢ edit_fault.Memory → why ≢ edit_fault.Keeper → (accept book import moment).answer ≡ Err why)
    → OnErr r (later ≡ book)
    → Decides r book import moment later
decided_so (Ok receipt) book later import moment told gained refused stayed = outcome_is _ _ _ told gained
decided_so (Err edit_fault.Keeper) book later import moment told gained refused stayed = stayed
decided_so (Err edit_fault.Memory) book later import moment told gained refused stayed = stayed
decided_so (Err (edit_fault.OtherBody n)) book later import moment told gained refused stayed =
    let answered = refused (λ is. cc) (λ is. cc) in
    outcome_is _ _ _ answered (stayed ∙ sym (refused_leaves book import moment (edit_fault.OtherBody n) answered))
decided_so (Err (edit_fault.Broken row rule)) book later import moment told gained refused stayed =
    let answered = refused (λ is. cc) (λ is. cc) in
    outcome_is _ _ _ answered (stayed ∙ sym (refused_leaves book import moment (edit_fault.Broken row rule) answered))

-- an import that is accepted
pub takes_accepted : (id : List ℕ) (form : Form) (time : Option ℕ) (book later : Book) (receipt : Receipt)
    (left left' : Option (List ℕ))
    → IsDecided id form time book (Ok receipt) later left left' → Takes id form time book (Ok receipt) later left left'
unfolding Takes
takes_accepted id form time book later receipt left left' decided = decided

-- one that isn't
pub takes_refused : (id : List ℕ) (form : Form) (time : Option ℕ) (book later : Book) (why : EditFault)
    (left left' : Option (List ℕ))
    → IsDecided id form time book (Err why) later left left'
    → Takes id form time book (Err (import_fault.Edit why)) later left left'
unfolding Takes
takes_refused id form time book later why left left' decided = decided

-- one that isn't made
pub takes_unmade : (id : List ℕ) (form : Form) (time : Option ℕ) (book : Book) (why : ImportFault)
    (left left' : Option (List ℕ))
    → IsUnmade form why left left' → Takes id form time book (Err why) book left left'
unfolding Takes
takes_unmade id form time book (import_fault.Body why) left left' unmade = (unmade, refl)
takes_unmade id form time book (import_fault.Form why) left left' unmade = (unmade, refl)
takes_unmade id form time book (import_fault.Edit why) left left' unmade = absurd unmade

-- a vault's count, where a keeper's was none before: one more exactly where the status is a fault of the vault
pub closed_faults : (r : Result Receipt ImportFault) (result counted n : ℕ) → counted ≡ faults_after r 0
    → ((m : ℕ) → faults_after r m ≡ faults_at result m) → faults_closed counted n ≡ faults_at result n
closed_faults (Ok receipt) result counted n count told = rw count (told n)
closed_faults (Err (import_fault.Body why)) result counted n count told = rw count (told n)
closed_faults (Err (import_fault.Form why)) result counted n count told = rw count (told n)
closed_faults (Err (import_fault.Edit edit_fault.Keeper)) result counted n count told = rw count (told n)
closed_faults (Err (import_fault.Edit edit_fault.Memory)) result counted n count told = rw count (told n)
closed_faults (Err (import_fault.Edit (edit_fault.OtherBody m))) result counted n count told = rw count (told n)
closed_faults (Err (import_fault.Edit (edit_fault.Broken row rule))) result counted n count told = rw count (told n)

-- a book is found
pub imports_so : (clean : Type 0) (id : List ℕ) (form : Form) (time : Option ℕ) (result : ℕ)
    (held held' : StoredData → Type 0)
    (left out left' out' : Option (List ℕ)) → IsImported clean id form time result held held' left out left' out'
    → Imports clean id form time result held held' left out left' out'
unfolding Imports
imports_so clean id form time result held held' left out left' out' imported = inl imported

-- none is
pub imports_none : (clean : Type 0) (id : List ℕ) (form : Form) (time : Option ℕ) (result : ℕ)
    (held held' : StoredData → Type 0)
    (left out left' out' : Option (List ℕ)) (why : OpenFault)
    → (clean → (stored : StoredData) → held stored → Explains why stored) → Tells (open_report why) result out out'
    → (clean → Stays held held') → left' ≡ left → Imports clean id form time result held held' left out left' out'
unfolding Imports
imports_none clean id form time result held held' left out left' out' why explained told stays same =
    inr (record { why = why; explained = explained; told = told }, stays, same)

-- the statuses of `import`: a number that none of them is isn't one
pub import_status : (at : ℕ) → 0 ≢ at → 1 ≢ at → 3 ≢ at → 4 ≢ at → 7 ≢ at → 11 ≢ at → 12 ≢ at → 13 ≢ at
    → (answer : Result Receipt ImportFault) → (import_report answer).status ≢ at
import_status at n0 n1 n3 n4 n7 n11 n12 n13 (Ok receipt) = n0
import_status at n0 n1 n3 n4 n7 n11 n12 n13 (Err (import_fault.Body body_fault.TooLarge)) = n13
import_status at n0 n1 n3 n4 n7 n11 n12 n13 (Err (import_fault.Body body_fault.ReadFault)) = n4
import_status at n0 n1 n3 n4 n7 n11 n12 n13 (Err (import_fault.Body body_fault.Memory)) = n1
import_status at n0 n1 n3 n4 n7 n11 n12 n13 (Err (import_fault.Form form_fault.Syntax)) = n11
import_status at n0 n1 n3 n4 n7 n11 n12 n13 (Err (import_fault.Form form_fault.Empty)) = n11
import_status at n0 n1 n3 n4 n7 n11 n12 n13 (Err (import_fault.Form (form_fault.BadRecord row))) = n11
import_status at n0 n1 n3 n4 n7 n11 n12 n13 (Err (import_fault.Form (form_fault.BadColumn row column))) = n11
import_status at n0 n1 n3 n4 n7 n11 n12 n13 (Err (import_fault.Form form_fault.Memory)) = n1
import_status at n0 n1 n3 n4 n7 n11 n12 n13 (Err (import_fault.Edit (edit_fault.OtherBody n))) = n12
import_status at n0 n1 n3 n4 n7 n11 n12 n13 (Err (import_fault.Edit (edit_fault.Broken row rule))) = n7
import_status at n0 n1 n3 n4 n7 n11 n12 n13 (Err (import_fault.Edit edit_fault.Keeper)) = n3
import_status at n0 n1 n3 n4 n7 n11 n12 n13 (Err (import_fault.Edit edit_fault.Memory)) = n1
