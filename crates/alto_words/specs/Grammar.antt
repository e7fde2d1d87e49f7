-- The positionals and options of each command, as clap is told of them.
use Rattle.std.specs.Prelude.{◌≡◌, ℕ, List, Some, true, codes}
use Rattle.clap.specs.Words.{App, Rule, app_of, new_app, new_rule, with_rule, with_subcommand}
use Rattle.clap.specs.declared.builder.command.Command.{Command}
use Rattle.clap.specs.declared.builder.command.Command.TheViews.{out-Command as fields_of}

-- an argument that has to be there
abbrev pub required : Rule → Rule
required rule = record rule { required = true }

-- a positional, by its name in the help
abbrev pub positional : List ℕ → Rule
positional name = required (new_rule name)

-- an option `--name`
abbrev pub option : List ℕ → Rule
option name = record (new_rule name) { long = Some name }

-- init STORE --epoch E --window W
abbrev pub init_app : App
init_app = with_rule (with_rule (with_rule (new_app (codes "init"))
    (positional (codes "STORE"))) (required (option (codes "epoch")))) (required (option (codes "window")))

-- pipe STORE [--turns T]
abbrev pub pipe_app : App
pipe_app = with_rule (with_rule (new_app (codes "pipe")) (positional (codes "STORE"))) (option (codes "turns"))

-- serve STORE --public ADDRESS --operator ADDRESS --workers N [--turns T]
abbrev pub serve_app : App
serve_app = with_rule (with_rule (with_rule (with_rule (with_rule (new_app (codes "serve"))
    (positional (codes "STORE"))) (required (option (codes "public")))) (required (option (codes "operator"))))
    (required (option (codes "workers")))) (option (codes "turns"))

-- import STORE --id ID --form FORM
abbrev pub import_app : App
import_app = with_rule (with_rule (with_rule (new_app (codes "import"))
    (positional (codes "STORE"))) (required (option (codes "id")))) (required (option (codes "form")))

-- show STORE RESOURCE
abbrev pub show_app : App
show_app = with_rule (with_rule (new_app (codes "show")) (positional (codes "STORE"))) (positional (codes "RESOURCE"))

-- drill --number X [--batches B]
abbrev pub drill_app : App
drill_app =
    with_rule (with_rule (new_app (codes "drill")) (required (option (codes "number")))) (option (codes "batches"))

-- trim STORE --keep K
abbrev pub trim_app : App
trim_app =
    with_rule (with_rule (new_app (codes "trim")) (positional (codes "STORE"))) (required (option (codes "keep")))

-- the program without its commands: none of what clap adds by itself, and a command has to be there
abbrev pub program_app : App
program_app = record (new_app (codes "alto")) {
  top = record (new_app (codes "alto")).top {
    no_binary_name = true;
    disable_help_flag = true;
    disable_help_subcommand = true;
    disable_version_flag = true;
    subcommand_required = true;
  };
}

-- the program
abbrev pub program : App
program = with_subcommand (with_subcommand (with_subcommand (with_subcommand (with_subcommand (with_subcommand
    (with_subcommand program_app init_app.top) pipe_app.top) serve_app.top) import_app.top) show_app.top) drill_app.top)
    trim_app.top

-- a command has one more argument of its own than another
abbrev pub Adds : Rule → Command → Command → Type 0
Adds rule old new =
    (app_of new ≡ with_rule (app_of old) rule) × ((fields_of new).has_globals ≡ (fields_of old).has_globals)
