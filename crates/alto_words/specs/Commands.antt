-- The names of the program's commands.
use Rattle.std.specs.Prelude.{ℕ, List, [], ◌∷◌, Option, codes}
use Rattle.std.specs.List.{find}
use Rattle.std.specs.Str.{bytes_eq}
use Rattle.alto_words.specs.declared.command_name.CommandName.{CommandName}
use Rattle.alto_words.specs.declared.command_name.CommandName.TheVariants.{Init, Pipe, Serve, Import, Show, Drill, Trim}

-- the word that names a command
abbrev pub text_of : CommandName → List ℕ
text_of Init = codes "init"
text_of Pipe = codes "pipe"
text_of Serve = codes "serve"
text_of Import = codes "import"
text_of Show = codes "show"
text_of Drill = codes "drill"
text_of Trim = codes "trim"

-- every command
abbrev pub commands : List CommandName
commands = Init ∷ Pipe ∷ Serve ∷ Import ∷ Show ∷ Drill ∷ Trim ∷ []

-- the command that a word names
abbrev pub command_named : List ℕ → Option CommandName
command_named word = find (λ command. bytes_eq (text_of command) word) commands
