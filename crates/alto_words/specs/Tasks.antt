-- The task that a command and the values of its arguments ask for.
use Rattle.std.specs.Prelude.{◌≡◌, ◌≢◌, ℕ, ◌≤◌, List, Option, Some, None, Result, MatchResult, codes, if◌then◌else◌}
use Rattle.std.specs.Option.{option_and_then}
use Rattle.std.specs.Result.{result_ok}
use Rattle.std.specs.Str.{bytes_eq}
use Rattle.alto_names.specs.Name.{named, is_import_byte, is_letter_or_digit}
use Rattle.edit_forms.specs.declared.form.Form.{Form}
use Rattle.edit_forms.specs.declared.form.Form.TheVariants.{Csv, Json}
use Rattle.alto_words.specs.Numbers.{number_in}
use Rattle.alto_words.specs.declared.command_name.CommandName.{CommandName}
use Rattle.alto_words.specs.declared.command_name.CommandName.TheVariants as command
use Rattle.alto_words.specs.declared.task.Task.{Task}
use Rattle.alto_words.specs.declared.task.Task.TheVariants.{Init, Pipe, Serve, Import, Show, Drill, Trim}
use Rattle.alto_words.specs.declared.task.WordsFault.{WordsFault}
use Rattle.alto_words.specs.declared.task.WordsFault.TheVariants.{Memory}

-- an epoch: 1 to 20 letters and digits
abbrev pub epoch_in : List ℕ → Option (List ℕ)
epoch_in word = result_ok (named is_letter_or_digit 20 word)

-- an import's id: 1 to 64 visible characters
abbrev pub id_in : List ℕ → Option (List ℕ)
id_in word = result_ok (named is_import_byte 64 word)

-- a form: `csv` or `json`
abbrev pub form_in : List ℕ → Option Form
form_in word = if bytes_eq word (codes "csv") then Some Csv
    else if bytes_eq word (codes "json") then Some Json else None

-- the value of an option that may be left out
abbrev pub or_usual : {T : Type 0} → T → (List ℕ → Option T) → Option (List ℕ) → Option T
or_usual usual read None = Some usual
or_usual usual read (Some word) = read word

-- what two values make, where both are there
abbrev pub both : {A B T : Type 0} → (A → B → T) → Option A → Option B → Option T
both make None b = None
both make (Some a) None = None
both make (Some a) (Some b) = Some (make a b)

-- what three values make, where all are there
abbrev pub all_three : {A B C T : Type 0} → (A → B → C → T) → Option A → Option B → Option C → Option T
all_three make None b c = None
all_three make (Some a) b c = both (make a) b c

-- what five values make, where all are there
abbrev pub all_five : {A B C D E T : Type 0} → (A → B → C → D → E → T)
    → Option A → Option B → Option C → Option D → Option E → Option T
all_five make None b c d e = None
all_five make (Some a) None c d e = None
all_five make (Some a) (Some b) c d e = all_three (make a b) c d e

-- the task of a command whose arguments have these values, by their names
abbrev pub task_in : CommandName → (List ℕ → Option (List ℕ)) → Option Task
task_in command.Init value = all_three Init (value (codes "STORE"))
    (option_and_then epoch_in (value (codes "epoch"))) (option_and_then (number_in 2 32) (value (codes "window")))
task_in command.Pipe value = both Pipe (value (codes "STORE")) (or_usual 30 (number_in 0 1000) (value (codes "turns")))
task_in command.Serve value = all_five Serve (value (codes "STORE")) (value (codes "public")) (value (codes "operator"))
    (option_and_then (number_in 1 64) (value (codes "workers")))
    (or_usual 30 (number_in 0 1000) (value (codes "turns")))
task_in command.Import value = all_three Import (value (codes "STORE"))
    (option_and_then id_in (value (codes "id"))) (option_and_then form_in (value (codes "form")))
task_in command.Show value = both Show (value (codes "STORE")) (value (codes "RESOURCE"))
task_in command.Drill value = both Drill (option_and_then (number_in 0 4294967295) (value (codes "number")))
    (or_usual 40 (number_in 1 1000) (value (codes "batches")))
task_in command.Trim value =
    both Trim (value (codes "STORE")) (option_and_then (number_in 0 4096) (value (codes "keep")))

-- numbers that words may say
abbrev pub IsInRange : Task → Type 0
IsInRange (Init store epoch window) = (2 ≤ window) × (window ≤ 32)
IsInRange (Pipe store turns) = turns ≤ 1000
IsInRange (Serve store public operator workers turns) = (1 ≤ workers) × (workers ≤ 64) × (turns ≤ 1000)
IsInRange (Drill number batches) = (1 ≤ batches) × (batches ≤ 1000)
IsInRange (Trim store keep) = keep ≤ 4096
IsInRange _ = Unit {0}

-- an answer gives the value that is meant; where it is a fault other than out of memory, none is meant
abbrev pub Gives : {T : Type 0} → Option T → Result T WordsFault → Type 0
Gives meant answer = MatchResult answer (λ value. meant ≡ Some value) (λ fault. fault ≢ Memory → meant ≡ None)
