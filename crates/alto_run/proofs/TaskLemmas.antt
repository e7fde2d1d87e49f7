-- What a task comes to, from what its command comes to at the store's path.
use Rattle.std.proofs.Common.{◌≡◌, ◌≢◌, ◌∙◌, ℕ, List, Option, Some, ap, inl, inr, subst, sym}
use Rattle.alto_keeper.specs.Stored.{Stays}
use Rattle.alto_words.specs.declared.task.Task.{Task}
use Rattle.alto_words.specs.declared.task.Task.TheVariants as task
use Rattle.alto_words.specs.Tasks.{IsInRange}
use Rattle.alto_words.specs.declared.task.Topic.{Topic}
use Rattle.edit_forms.specs.declared.form.Form.{Form}
use Rattle.alto_commands.specs.Import.{Imports}
use Rattle.alto_commands.specs.Init.{Begins}
use Rattle.alto_commands.specs.Pipe.{Pipes}
use Rattle.alto_commands.specs.Reports.{Tells}
use Rattle.alto_commands.specs.Show.{Shows}
use Rattle.alto_commands.specs.Trim.{Trims}
use Rattle.alto_service.specs.Serving.{ServesStore}
use Rattle.alto_run.specs.Runs.{Comes, Does, OthersStay, PrintsText, RunsOut, World, drill_text, store_of}

-- what is held at stores but this stays
abbrev pub OthersThan : List ℕ → World → World → Type 0
OthersThan path old new = new.clean → (other : List ℕ) → other ≢ path → Stays (old.held other) (new.held other)

-- the store of a task is the only one that may change
others_stay : (asked : Task) (store path : List ℕ) (old new : World) → store_of asked ≡ Some store → path ≡ store
    → OthersThan path old new → OthersStay asked old new
unfolding OthersStay
others_stay asked store path old new of is others = λ known other apart.
    others known other (λ same. apart (of ∙ ap Some (sym (same ∙ is))))

-- a task without a store leaves all stores
all_stay : (asked : Task) (old new : World) → ((path : List ℕ) → Stays (old.held path) (new.held path))
    → OthersStay asked old new
unfolding OthersStay
all_stay asked old new stay = λ known other apart. stay other

-- what a task comes to is what the task that it is comes to
comes_as : (asked given : Task) (result : ℕ) (time : Option ℕ) (old new : World) → asked ≡ given
    → Does given result time old new → OthersStay asked old new → Comes asked result time old new
comes_as asked given result time old new is does others = record {
  done = inl (subst (λ (asked : Task). Does asked result time old new) (sym is) does);
  others = others;
}

-- `init`
pub comes_init : (asked : Task) (store epoch : List ℕ) (window : ℕ) (path : List ℕ) (result : ℕ) (time : Option ℕ)
    (old new : World)
    → asked ≡ task.Init store epoch window → path ≡ store → OthersThan path old new
    → Begins new.clean epoch window result (old.held path) (new.held path) old.out new.out
    → new.doors ≡ old.doors
    → Comes asked result time old new
unfolding Does
comes_init asked store epoch window path result time old new is at others begun doors =
    comes_as asked (task.Init store epoch window) result time old new is (
      subst (λ (path : List ℕ). Begins new.clean epoch window result (old.held path) (new.held path) old.out new.out)
          at begun,
      doors,
    )
    (others_stay asked store path old new (ap store_of is) at others)

-- `pipe`
pub comes_pipe : (asked : Task) (store : List ℕ) (turns : ℕ) (path : List ℕ)
    (result : ℕ) (time : Option ℕ) (old new : World)
    → asked ≡ task.Pipe store turns → path ≡ store → OthersThan path old new
    → Pipes new.clean result time turns (old.held path) (new.held path) old.faults new.faults
    old.left old.out new.left new.out
    → new.doors ≡ old.doors
    → Comes asked result time old new
unfolding Does
comes_pipe asked store turns path result time old new is at others piped doors =
    comes_as asked (task.Pipe store turns) result time old new is (
      subst (λ (path : List ℕ). Pipes new.clean result time turns (old.held path) (new.held path) old.faults new.faults
          old.left old.out new.left new.out) at piped,
      doors,
    )
    (others_stay asked store path old new (ap store_of is) at others)

-- `serve`
pub comes_serve : (asked : Task) (store public operator : List ℕ) (workers turns : ℕ) (path : List ℕ)
    (result : ℕ) (time : Option ℕ) (old new : World)
    → asked ≡ task.Serve store public operator workers turns → path ≡ store → OthersThan path old new
    → ServesStore new.clean workers result (old.held path) (new.held path) old.doors new.doors old.out new.out
    → Comes asked result time old new
unfolding Does
comes_serve asked store public operator workers turns path result time old new is at others served =
    comes_as asked (task.Serve store public operator workers turns) result time old new is
    (subst (λ (path : List ℕ). ServesStore new.clean workers result (old.held path) (new.held path) old.doors new.doors
    old.out new.out) at served)
    (others_stay asked store path old new (ap store_of is) at others)

-- `import`
pub comes_import : (asked : Task) (store id : List ℕ) (form : Form) (path : List ℕ)
    (result : ℕ) (time : Option ℕ) (old new : World)
    → asked ≡ task.Import store id form → path ≡ store → OthersThan path old new
    → Imports new.clean id form time result (old.held path) (new.held path)
    old.left old.out new.left new.out
    → new.doors ≡ old.doors
    → Comes asked result time old new
unfolding Does
comes_import asked store id form path result time old new is at others imported doors =
    comes_as asked (task.Import store id form) result time old new is (
      subst (λ (path : List ℕ). Imports new.clean id form time result (old.held path) (new.held path)
          old.left old.out new.left new.out) at imported,
      doors,
    )
    (others_stay asked store path old new (ap store_of is) at others)

-- `show`
pub comes_show : (asked : Task) (store resource text : List ℕ) (path : List ℕ)
    (result : ℕ) (time : Option ℕ) (old new : World)
    → asked ≡ task.Show store resource → path ≡ store → OthersThan path old new
    → text ≡ resource → Shows new.clean text result (old.held path) old.out new.out
    → (new.clean → Stays (old.held path) (new.held path)) → new.doors ≡ old.doors
    → Comes asked result time old new
unfolding Does
comes_show asked store resource text path result time old new is at others named shown stays doors =
    comes_as asked (task.Show store resource) result time old new is (
      subst (λ (text : List ℕ). Shows new.clean text result (old.held store) old.out new.out) named
          (subst (λ (path : List ℕ). Shows new.clean text result (old.held path) old.out new.out) at shown),
      subst (λ (path : List ℕ). new.clean → Stays (old.held path) (new.held path)) at stays,
      doors,
    )
    (others_stay asked store path old new (ap store_of is) at others)

-- `trim`
pub comes_trim : (asked : Task) (store : List ℕ) (keep : ℕ) (path : List ℕ)
    (result : ℕ) (time : Option ℕ) (old new : World)
    → asked ≡ task.Trim store keep → path ≡ store → OthersThan path old new
    → Trims new.clean keep result (old.held path) (new.held path) old.out new.out
    → new.doors ≡ old.doors
    → Comes asked result time old new
unfolding Does
comes_trim asked store keep path result time old new is at others trimmed doors =
    comes_as asked (task.Trim store keep) result time old new is (
      subst (λ (path : List ℕ). Trims new.clean keep result (old.held path) (new.held path) old.out new.out) at trimmed,
      doors,
    )
    (others_stay asked store path old new (ap store_of is) at others)

-- `drill`
pub comes_drill : (asked : Task) (number batches : ℕ) (result : ℕ) (time : Option ℕ) (old new : World)
    → asked ≡ task.Drill number batches
    → ((path : List ℕ) → Stays (old.held path) (new.held path))
    → PrintsText (drill_text number batches) result old.out new.out → new.doors ≡ old.doors
    → Comes asked result time old new
unfolding Does
comes_drill asked number batches result time old new is stay told doors =
    comes_as asked (task.Drill number batches) result time old new is (told, doors) (all_stay asked old new stay)

-- help
pub comes_help : (asked : Task) (topic : Topic) (text : List ℕ) (result : ℕ) (time : Option ℕ) (old new : World)
    → asked ≡ task.Help topic
    → ((path : List ℕ) → Stays (old.held path) (new.held path))
    → Tells (record { status = 0; text = text }) result old.out new.out → new.doors ≡ old.doors
    → Comes asked result time old new
unfolding Does PrintsText
comes_help asked topic text result time old new is stay told doors =
    comes_as asked (task.Help topic) result time old new is ((text, told), doors) (all_stay asked old new stay)

-- the version
pub comes_version : (asked : Task) (text : List ℕ) (result : ℕ) (time : Option ℕ) (old new : World)
    → asked ≡ task.Version
    → ((path : List ℕ) → Stays (old.held path) (new.held path))
    → Tells (record { status = 0; text = text }) result old.out new.out → new.doors ≡ old.doors
    → Comes asked result time old new
unfolding Does PrintsText
comes_version asked text result time old new is stay told doors =
    comes_as asked task.Version result time old new is ((text, told), doors) (all_stay asked old new stay)

-- memory ran out before the words were read
pub comes_out : (asked : Task) (result : ℕ) (time : Option ℕ) (old new : World)
    → ((path : List ℕ) → Stays (old.held path) (new.held path)) → RunsOut result old.out new.out
    → Comes asked result time old new
comes_out asked result time old new stay out = record { done = inr out; others = all_stay asked old new stay }

-- the numbers of a task are within the bounds of the task that it is
pub in_range : (asked given : Task) → asked ≡ given → IsInRange asked → IsInRange given
in_range asked given is range = subst IsInRange is range
