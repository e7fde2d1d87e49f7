-- The first of the commands that are left is the first of all.
use Rattle.std.proofs.Common.{◌≡◌, drop}
use Rattle.std.specs.List.{find}
use Rattle.std.specs.Str.{bytes_eq}
use Rattle.alto_words.specs.Commands.{text_of}
use Rattle.alto_words.proofs.command_name.first_named.Given as goal

abbrev pub invariant-loop-command : goal.invariant-loop-command
invariant-loop-command l =
    find (λ command. bytes_eq (text_of command) l.word) (drop l.command-index l.commands)
    ≡ find (λ command. bytes_eq (text_of command) l.word) l.commands
