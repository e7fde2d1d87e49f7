-- The task that the words of a command line ask for.
use Rattle.std.specs.Prelude.{ℕ, List, [], ◌∷◌, Option, Some, None, codes, if◌then◌else◌}
use Rattle.std.specs.Option.{option_and_then, option_map, option_or}
use Rattle.std.specs.Str.{bytes_eq}
use Rattle.clap.specs.Words.{Kinds, Row, fault_of, first_of, subcommand_of}
use Rattle.alto_words.specs.Commands.{command_named}
use Rattle.alto_words.specs.Grammar.{program}
use Rattle.alto_words.specs.Tasks.{task_in}
use Rattle.alto_words.specs.declared.task.Task.{Task}
use Rattle.alto_words.specs.declared.task.Task.TheVariants as task
use Rattle.alto_words.specs.declared.task.Topic.TheVariants as topic

-- the task of the command that was found, with its values
abbrev pub task_found : Option (List ℕ × List Row) → Option Task
task_found None = None
task_found (Some (name, values)) =
    option_and_then (λ command. task_in command (λ id. first_of id values)) (command_named name)

-- a task, unless the words have a fault
abbrev pub unless_faulty : Kinds → Option Task → Option Task
unless_faulty [] task = task
unless_faulty (fault ∷ faults) task = None

-- the task of a command and its arguments
abbrev pub command_task : List (List ℕ) → Option Task
command_task words = unless_faulty (fault_of program words) (task_found (subcommand_of program words))

-- what `--help` and `--version` ask for: alone, or help behind a command
abbrev pub asked : List (List ℕ) → Option Task
asked (word ∷ []) = if bytes_eq word (codes "--help") then Some (task.Help topic.Program)
    else if bytes_eq word (codes "--version") then Some task.Version else None
asked (name ∷ word ∷ []) = if bytes_eq word (codes "--help")
    then option_map (λ command. task.Help (topic.Command command)) (command_named name) else None
asked _ = None

-- the task that words ask for, if they are of the grammar
abbrev pub task_of : List (List ℕ) → Option Task
task_of words = option_or (asked words) (command_task words)
