-- What a run of the program comes to, by the task that its words ask for.
use Rattle.std.specs.Prelude.{◌≡◌, ◌≢◌, ◌⊎◌, ℕ, List, ◌++◌, Option, Some, None, codes}
use Rattle.alto_keeper.specs.Stored.{StoredData, Stays}
use Rattle.alto_words.specs.declared.task.Task.{Task}
use Rattle.alto_words.specs.declared.task.Task.TheVariants as task
use Rattle.alto_commands.specs.Import.{Imports}
use Rattle.alto_commands.specs.Init.{Begins}
use Rattle.alto_commands.specs.Pipe.{Pipes}
use Rattle.alto_commands.specs.Reports.{Report, Tells, line_end, says}
use Rattle.alto_commands.specs.Show.{Shows}
use Rattle.alto_commands.specs.Trim.{Trims}
use Rattle.alto_doors.specs.declared.counts.DoorCounts.{DoorCounts}
use Rattle.alto_drill.specs.Drilled.{drilled_by, text_of}
use Rattle.alto_service.specs.Serving.{ServesStore}

-- what is told where the words are outside the grammar
abbrev pub words_report : Report
words_report =
    says 2 (codes "words outside the grammar; commands are init, pipe, serve, import, show, drill, trim" ++ line_end)

-- this text is printed
unfoldable pub PrintsText : List ℕ → ℕ → Option (List ℕ) → Option (List ℕ) → Type 0
PrintsText text result out out' = Tells (record { status = 0; text = text }) result out out'

-- the text of a drill
unfoldable pub drill_text : ℕ → ℕ → List ℕ
drill_text number batches = text_of (drilled_by number batches)

-- some text is printed
abbrev pub Prints : ℕ → Option (List ℕ) → Option (List ℕ) → Type 0
Prints result out out' = (text : List ℕ) × PrintsText text result out out'

-- the store that a task is about, if it is about one
abbrev pub store_of : Task → Option (List ℕ)
store_of (task.Init store epoch window) = Some store
store_of (task.Pipe store turns) = Some store
store_of (task.Serve store public operator workers turns) = Some store
store_of (task.Import store id form) = Some store
store_of (task.Show store resource) = Some store
store_of (task.Trim store keep) = Some store
store_of (task.Drill number batches) = None
store_of (task.Help topic) = None
store_of task.Version = None

-- what a run finds or leaves: what a vault holds by path, unless something has put that in doubt, and its count of
-- faults; the counts of doors; and the bytes that a console has left and out
pub record World : Type 1 where
  pub clean : Type 0
  pub held : List ℕ → StoredData → Type 0
  pub faults : ℕ
  pub doors : DoorCounts
  pub left : Option (List ℕ)
  pub out : Option (List ℕ)

-- what is held at stores stays, but at that of a task
unfoldable pub OthersStay : Task → World → World → Type 0
OthersStay asked old new =
    new.clean → (path : List ℕ) → store_of asked ≢ Some path → Stays (old.held path) (new.held path)

-- what a task comes to, with a status, at the moment that a clock always tells, if it always tells one
unfoldable pub Does : Task → ℕ → Option ℕ → World → World → Type 0
Does (task.Init store epoch window) result time old new =
    Begins new.clean epoch window result (old.held store) (new.held store) old.out new.out × (new.doors ≡ old.doors)
Does (task.Pipe store turns) result time old new =
    Pipes new.clean result time turns (old.held store) (new.held store) old.faults new.faults
    old.left old.out new.left new.out
    × (new.doors ≡ old.doors)
Does (task.Serve store public operator workers turns) result time old new =
    ServesStore new.clean workers result (old.held store) (new.held store) old.doors new.doors old.out new.out
Does (task.Import store id form) result time old new =
    Imports new.clean id form time result (old.held store) (new.held store) old.left old.out new.left new.out
    × (new.doors ≡ old.doors)
Does (task.Show store resource) result time old new =
    Shows new.clean resource result (old.held store) old.out new.out
    × (new.clean → Stays (old.held store) (new.held store)) × (new.doors ≡ old.doors)
Does (task.Trim store keep) result time old new =
    Trims new.clean keep result (old.held store) (new.held store) old.out new.out × (new.doors ≡ old.doors)
Does (task.Drill number batches) result time old new =
    PrintsText (drill_text number batches) result old.out new.out × (new.doors ≡ old.doors)
Does (task.Help topic) result time old new = Prints result old.out new.out × (new.doors ≡ old.doors)
Does task.Version result time old new = Prints result old.out new.out × (new.doors ≡ old.doors)

-- memory ran out before the words were read
abbrev pub RunsOut : ℕ → Option (List ℕ) → Option (List ℕ) → Type 0
RunsOut result out out' = (result ≡ 1) × (out' ≡ out)

-- what a run of a task comes to
pub record Comes (asked : Task) (result : ℕ) (time : Option ℕ) (old new : World) : Type 0 where
  pub done : Does asked result time old new ⊎ RunsOut result old.out new.out
  pub others : OthersStay asked old new

-- words are outside the grammar, and that is told; or memory ran out before they were read
unfoldable pub IsRefused : ℕ → Option (List ℕ) → Option (List ℕ) → Type 0
IsRefused result out out' = Tells words_report result out out' ⊎ RunsOut result out out'
