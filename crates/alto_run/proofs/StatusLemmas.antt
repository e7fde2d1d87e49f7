-- The statuses that commands end with: 2 is none of them, and 4 that of none which reads nothing.
use Rattle.std.proofs.Common.{◌≡◌, ◌≢◌, ◌⊎◌, ◌∙◌, ℕ, List, Option, Some, None, ap, inl, inr}
use Rattle.std.proofs.Common.{sym, Result, Ok, Err}
use Rattle.alto_desk.specs.declared.fault.InitFault.{InitFault}
use Rattle.alto_desk.specs.declared.fault.InitFault.TheVariants as init_fault
use Rattle.alto_desk.specs.declared.fault.OpenFault.{OpenFault}
use Rattle.alto_desk.specs.declared.fault.OpenFault.TheVariants as open_fault
use Rattle.alto_desk.specs.declared.fault.TrimFault.{TrimFault}
use Rattle.alto_desk.specs.declared.fault.TrimFault.TheVariants as trim_fault
use Rattle.alto_keeper.specs.Stored.{StoredData, Stays, one_more}
use Rattle.alto_serve.specs.declared.end.End.{End}
use Rattle.alto_serve.specs.declared.end.End.TheVariants as end
use Rattle.edit_forms.specs.declared.form.Form.{Form}
use Rattle.alto_commands.specs.Import.{Imports, IsImported, import_report}
use Rattle.alto_commands.specs.Init.{Begins, IsInitialised, IsNotInitialised, begun_report, init_report}
use Rattle.alto_commands.specs.Pipe.{IsPiped, Pipes}
use Rattle.alto_commands.specs.Reports.{Tells}
use Rattle.alto_commands.specs.Show.{IsShown, Shows, document_named, show_report}
use Rattle.alto_commands.specs.Status.{faults_at, reads_at, status_of}
use Rattle.alto_commands.specs.Stores.{IsUnopened, open_report}
use Rattle.alto_commands.specs.Trim.{IsTrimmed, Trims, trim_report}
use Rattle.alto_commands.proofs.ImportLemmas.{import_status}
use Rattle.alto_commands.proofs.ReportLemmas.{count_stays, told_not}
use Rattle.alto_book.specs.Book.{rows_of}
use Rattle.alto_doors.specs.declared.counts.DoorCounts.{DoorCounts}
use Rattle.alto_service.specs.Serving.{IsGivenUp, IsServed, ServesStore}
use Rattle.alto_service.proofs.StatusLemmas.{ends_not}
use Rattle.alto_words.specs.declared.task.Task.{Task}
use Rattle.alto_words.specs.declared.task.Task.TheVariants as task
use Rattle.alto_run.specs.Runs.{Comes, Does, PrintsText, RunsOut, World, drill_text}

-- a number that is none of the statuses of commands that read nothing
pub record IsOther (at : ℕ) : Type 0 where
  n0 : 0 ≢ at
  n1 : 1 ≢ at
  n3 : 3 ≢ at
  n5 : 5 ≢ at
  n6 : 6 ≢ at
  n7 : 7 ≢ at
  n8 : 8 ≢ at
  n9 : 9 ≢ at
  n10 : 10 ≢ at
  n11 : 11 ≢ at
  n12 : 12 ≢ at
  n13 : 13 ≢ at
  n14 : 14 ≢ at
  n15 : 15 ≢ at

pub no_words : IsOther 2
no_words = record {
  n0 = λ is. cc;
  n1 = λ is. cc;
  n3 = λ is. cc;
  n5 = λ is. cc;
  n6 = λ is. cc;
  n7 = λ is. cc;
  n8 = λ is. cc;
  n9 = λ is. cc;
  n10 = λ is. cc;
  n11 = λ is. cc;
  n12 = λ is. cc;
  n13 = λ is. cc;
  n14 = λ is. cc;
  n15 = λ is. cc;
}

pub no_read : IsOther 4
no_read = record {
  n0 = λ is. cc;
  n1 = λ is. cc;
  n3 = λ is. cc;
  n5 = λ is. cc;
  n6 = λ is. cc;
  n7 = λ is. cc;
  n8 = λ is. cc;
  n9 = λ is. cc;
  n10 = λ is. cc;
  n11 = λ is. cc;
  n12 = λ is. cc;
  n13 = λ is. cc;
  n14 = λ is. cc;
  n15 = λ is. cc;
}

-- a text that is printed
pub prints_not : (at : ℕ) → IsOther at → (text : List ℕ) (result : ℕ) (out out' : Option (List ℕ))
    → PrintsText text result out out' → result ≢ at
unfolding PrintsText
prints_not at other text result out out' told =
    told_not at (record { status = 0; text = text }) result out out' other.n0 other.n5 other.n1 told

pub prints : (text : List ℕ) (result : ℕ) (out out' : Option (List ℕ))
    → Tells (record { status = 0; text = text }) result out out' → PrintsText text result out out'
unfolding PrintsText
prints text result out out' told = told

-- a text that is printed is no fault of a vault
pub prints_no_fault : (text : List ℕ) (result : ℕ) (out out' : Option (List ℕ)) → PrintsText text result out out'
    → result ≢ 3
unfolding PrintsText
prints_no_fault text result out out' told =
    told_not 3 (record { status = 0; text = text }) result out out' (λ is. cc) (λ is. cc) (λ is. cc) told

-- a store that isn't opened
open_status : (at : ℕ) → IsOther at → (why : OpenFault) → (open_report why).status ≢ at
open_status at other (open_fault.Damaged n) = other.n9
open_status at other (open_fault.DamagedBase k) = other.n9
open_status at other (open_fault.BadBook n rule) = other.n9
open_status at other open_fault.Keeper = other.n3
open_status at other open_fault.Memory = other.n1

unopened_not : (at : ℕ) → IsOther at → (clean : Type 0) (held : StoredData → Type 0) (result : ℕ)
    (out out' : Option (List ℕ)) → IsUnopened clean held result out out' → result ≢ at
unopened_not at other clean held result out out' is =
    told_not at (open_report is.why) result out out' (open_status at other is.why) other.n5 other.n1 is.told

-- `init`
init_status : (at : ℕ) → IsOther at → (why : InitFault) → (init_report why).status ≢ at
init_status at other init_fault.Already = other.n10
init_status at other init_fault.Keeper = other.n3
init_status at other init_fault.Memory = other.n1

pub begins_not : (at : ℕ) → IsOther at → (clean : Type 0) (epoch : List ℕ) (window result : ℕ)
    (held held' : StoredData → Type 0) (out out' : Option (List ℕ))
    → Begins clean epoch window result held held' out out' → result ≢ at
unfolding Begins
begins_not at other clean epoch window result held held' out out' begins = by begins
  where
    by : IsInitialised clean epoch window result held held' out out' ⊎ IsNotInitialised clean result held held' out out'
        → result ≢ at
    by (inl is) = told_not at (begun_report epoch window) result out out' other.n0 other.n5 other.n1 is.told
    by (inr is) =
        told_not at (init_report is.why) result out out' (init_status at other is.why) other.n5 other.n1 is.told

-- `show`
show_status : (at : ℕ) → IsOther at → (document : Option (List ℕ)) → (show_report document).status ≢ at
show_status at other (Some document) = other.n0
show_status at other None = other.n8

pub shows_not : (at : ℕ) → IsOther at → (clean : Type 0) (text : List ℕ) (result : ℕ) (held : StoredData → Type 0)
    (out out' : Option (List ℕ)) → Shows clean text result held out out' → result ≢ at
unfolding Shows
shows_not at other clean text result held out out' shows = by shows
  where
    by : IsShown clean text result held out out' ⊎ IsUnopened clean held result out out' → result ≢ at
    by (inl is) =
        let document = document_named (rows_of is.book) text in
        told_not at (show_report document) result out out' (show_status at other document) other.n5 other.n1 is.told
    by (inr is) = unopened_not at other clean held result out out' is

-- `trim`
trim_status : (at : ℕ) → IsOther at → (answer : Result ℕ TrimFault) → (trim_report answer).status ≢ at
trim_status at other (Ok number) = other.n0
trim_status at other (Err trim_fault.Keeper) = other.n3
trim_status at other (Err trim_fault.Memory) = other.n1

pub trims_not : (at : ℕ) → IsOther at → (clean : Type 0) (keep result : ℕ) (held held' : StoredData → Type 0)
    (out out' : Option (List ℕ)) → Trims clean keep result held held' out out' → result ≢ at
unfolding Trims
trims_not at other clean keep result held held' out out' trims = by trims
  where
    by : IsTrimmed clean keep result held held' out out'
        ⊎ (IsUnopened clean held result out out' × (clean → Stays held held')) → result ≢ at
    by (inl is) =
        told_not at (trim_report is.answer) result out out' (trim_status at other is.answer) other.n5 other.n1 is.told
    by (inr is) = unopened_not at other clean held result out out' is.0

-- `serve`
pub serves_not : (at : ℕ) → IsOther at → (clean : Type 0) (workers result : ℕ) (held held' : StoredData → Type 0)
    (doors doors' : DoorCounts) (out out' : Option (List ℕ))
    → ServesStore clean workers result held held' doors doors' out out' → result ≢ at
unfolding ServesStore
serves_not at other clean workers result held held' doors doors' out out' serves = by serves
  where
    by : (IsServed clean workers result held held' doors doors' × (out' ≡ out))
        ⊎ (IsGivenUp clean result held held' × (out' ≡ out))
        ⊎ (IsUnopened clean held result out out' × (clean → Stays held held') × (doors' ≡ doors)) → result ≢ at
    by (inl is) = ends_not at result other.n0 other.n6 other.n1 is.0.ends
    by (inr (inl is)) = λ (same : result ≡ at). other.n1 (sym is.0.status ∙ same)
    by (inr (inr is)) = unopened_not at other clean held result out out' is.0

-- `pipe`
end_status : (at : ℕ) → IsOther at → 4 ≢ at → (ended : End) → status_of ended ≢ at
end_status at other n4 end.Closed = other.n0
end_status at other n4 end.Memory = other.n1
end_status at other n4 end.ReadFault = n4
end_status at other n4 end.WriteFault = other.n5
end_status at other n4 end.Cut = other.n14
end_status at other n4 end.Limit = other.n15

pub pipes_not : (at : ℕ) → IsOther at → 4 ≢ at → (clean : Type 0) (result : ℕ) (time : Option ℕ) (turns : ℕ)
    (held held' : StoredData → Type 0) (faults faults' : ℕ) (left out left' out' : Option (List ℕ))
    → Pipes clean result time turns held held' faults faults' left out left' out' → result ≢ at
unfolding Pipes
pipes_not at other n4 clean result time turns held held' faults faults' left out left' out' pipes = by pipes
  where
    by : IsPiped clean result time turns held held' faults faults' left out left' out'
        ⊎ (IsUnopened clean held result out out' × (clean → Stays held held') × (faults' ≡ faults_at result faults)
        × (left' ≡ left))
        → result ≢ at
    by (inl is) = λ (same : result ≡ at). end_status at other n4 is.ended (sym is.status ∙ same)
    by (inr is) = unopened_not at other clean held result out out' is.0

-- where `pipe` ends with 3, the vault has counted a fault
no_fault_ends : (ended : End) → status_of ended ≢ 3
no_fault_ends end.Closed = λ is. cc
no_fault_ends end.Memory = λ is. cc
no_fault_ends end.ReadFault = λ is. cc
no_fault_ends end.WriteFault = λ is. cc
no_fault_ends end.Cut = λ is. cc
no_fault_ends end.Limit = λ is. cc

pub pipes_counted : (clean : Type 0) (result : ℕ) (time : Option ℕ) (turns : ℕ) (held held' : StoredData → Type 0)
    (faults faults' : ℕ) (left out left' out' : Option (List ℕ))
    → Pipes clean result time turns held held' faults faults' left out left' out' → result ≡ 3
    → faults' ≡ one_more faults
unfolding Pipes
pipes_counted clean result time turns held held' faults faults' left out left' out' pipes = by pipes
  where
    by : IsPiped clean result time turns held held' faults faults' left out left' out'
        ⊎ (IsUnopened clean held result out out' × (clean → Stays held held') × (faults' ≡ faults_at result faults)
        × (left' ≡ left))
        → result ≡ 3 → faults' ≡ one_more faults
    by (inl is) = λ (same : result ≡ 3). absurd (no_fault_ends is.ended (sym is.status ∙ same))
    by (inr is) = λ (same : result ≡ 3). is.2 ∙ ap (λ (status : ℕ). faults_at status faults) same

-- `import`
pub imports_not : (at : ℕ) → IsOther at → 4 ≢ at → (clean : Type 0) (id : List ℕ) (form : Form) (time : Option ℕ)
    (result : ℕ) (held held' : StoredData → Type 0) (left out left' out' : Option (List ℕ))
    → Imports clean id form time result held held' left out left' out' → result ≢ at
unfolding Imports
imports_not at other n4 clean id form time result held held' left out left' out' imports = by imports
  where
    by : IsImported clean id form time result held held' left out left' out'
        ⊎ (IsUnopened clean held result out out' × (clean → Stays held held') × (left' ≡ left)) → result ≢ at
    by (inl is) =
        let own = import_status at other.n0 other.n1 other.n3 n4 other.n7 other.n11 other.n12 other.n13 is.answer in
        told_not at (import_report is.answer) result out out' own other.n5 other.n1 is.told
    by (inr is) = unopened_not at other clean held result out out' is.0

-- what is none of the statuses of commands is none of a task's
pub does_not : (at : ℕ) → IsOther at → 4 ≢ at → (asked : Task) (result : ℕ) (time : Option ℕ) (old new : World)
    → Does asked result time old new → result ≢ at
unfolding Does
does_not at other n4 (task.Init store epoch window) result time old new does =
    begins_not at other new.clean epoch window result (old.held store) (new.held store) old.out new.out does.0
does_not at other n4 (task.Pipe store turns) result time old new does =
    pipes_not at other n4 new.clean result time turns (old.held store) (new.held store) old.faults new.faults
    old.left old.out new.left new.out does.0
does_not at other n4 (task.Serve store public operator workers turns) result time old new does =
    serves_not at other new.clean workers result (old.held store) (new.held store) old.doors new.doors
    old.out new.out does
does_not at other n4 (task.Import store id form) result time old new does =
    imports_not at other n4 new.clean id form time result (old.held store) (new.held store)
    old.left old.out new.left new.out does.0
does_not at other n4 (task.Show store resource) result time old new does =
    shows_not at other new.clean resource result (old.held store) old.out new.out does.0
does_not at other n4 (task.Trim store keep) result time old new does =
    trims_not at other new.clean keep result (old.held store) (new.held store) old.out new.out does.0
does_not at other n4 (task.Drill number batches) result time old new does =
    prints_not at other (drill_text number batches) result old.out new.out does.0
does_not at other n4 (task.Help topic) result time old new does =
    prints_not at other does.0.0 result old.out new.out does.0.1
does_not at other n4 task.Version result time old new does =
    prints_not at other does.0.0 result old.out new.out does.0.1

-- a task doesn't end as words outside the grammar do
pub comes_not_two : (asked : Task) (result : ℕ) (time : Option ℕ) (old new : World) → Comes asked result time old new
    → result ≢ 2
comes_not_two asked result time old new comes = by comes.done
  where
    by : Does asked result time old new ⊎ RunsOut result old.out new.out → result ≢ 2
    by (inl does) = does_not 2 no_words (λ is. cc) asked result time old new does
    by (inr is) = λ (same : result ≡ 2). no_words.n1 (sym is.0 ∙ same)

-- a count of failed reads that stays, where the status is another
pub reads_stay : (result n now : ℕ) → now ≡ n → result ≢ 4 → now ≡ reads_at result n
reads_stay result n now same other = same ∙ count_stays 4 result n _ other
