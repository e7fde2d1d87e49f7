-- What clap found, and the task that it asks for.
use Rattle.std.proofs.Common.{◌≡◌, ◌≢◌, ◌∙◌, sym, ap, ap₂, refl, true, inl, inr, ℕ, List, [], ◌∷◌, map, Option, Some}
use Rattle.std.proofs.Common.{None, option_map}
use Rattle.std.proofs.Math.Path.{fun_ext}
use Rattle.std.specs.Prelude.{Box, find, slice_get}
use Rattle.std.specs.Borrow.{Bor}
use Rattle.std.specs.Box.{box_value}
use Rattle.std.specs.Option.{option_and_then}
use Rattle.std.specs.Str.{bytes_eq}
use Rattle.clap.proofs.WalkLemmas.{find-map}
use Rattle.clap.specs.Facts.{Entry}
use Rattle.clap.specs.Simple.{subcommand_rows}
use Rattle.clap.specs.Walk.{row_of}
use Rattle.clap.specs.Words.{App, HasKind, HasMatchesOf, Kinds, Row, fault_of, first_of, first_value, is_simple}
use Rattle.clap.specs.Words.{is_simple_and_free, kind_of, rows_of, subcommand_of, subcommand_rows_of}
use Rattle.clap.specs.declared.error.Error.{Error}
use Rattle.clap.specs.declared.error.kind.ErrorKind.TheVariants.{OutOfMemory}
use Rattle.clap.specs.declared.parser.matches.ArgMatches.{ArgMatches}
use Rattle.clap.specs.declared.parser.matches.ArgMatches.TheViews.{out-SubCommand}
use Rattle.clap.specs.declared.parser.matches.Found.{Found}
use Rattle.clap.specs.declared.parser.matches.SubCommand.{SubCommand}
use Rattle.alto_words.specs.Commands.{command_named}
use Rattle.alto_words.specs.Grammar.{program}
use Rattle.alto_words.specs.Tasks.{task_in}
use Rattle.alto_words.specs.Words.{command_task, task_found, unless_faulty}
use Rattle.alto_words.specs.declared.command_name.CommandName.{CommandName}
use Rattle.alto_words.specs.declared.task.Task.{Task}

-- the name and the rows of a subcommand, where each is known
pub found_is : {Z : Type 0} (found : Option (Box SubCommand Z)) (name : List ℕ) (rows : List Row)
    → Some name ≡ option_map (λ b. (out-SubCommand (box_value b)).name.now) found
    → Some rows ≡ option_map (λ p. p.1) (subcommand_rows found) → subcommand_rows found ≡ Some (name, rows)
found_is None name rows name_is rows_are = cc
found_is (Some b) name rows name_is rows_are = cc

first_text : (texts : List (Bor (List ℕ)))
    → option_map (λ s. s.now) (slice_get texts 0) ≡ slice_get (map (λ s. s.now) texts) 0
first_text [] = refl
first_text (text ∷ texts) = refl

-- the first value of an id, as clap's entries and as rows
value_is : (found : Found) (id : List ℕ) → first_value found id ≡ first_of id (rows_of found)
value_is found id =
    at_entry (find (λ e. bytes_eq e.0.now id) found.entries.items)
    ∙ ap (option_and_then (λ (r : Row). slice_get r.values 0))
    (find-map (λ (r : Row). bytes_eq r.id id) row_of found.entries.items)
  where
    at_entry : (entry : Option Entry)
        → option_and_then (λ a. option_map (λ s. s.now) (slice_get a.vals.items 0)) (option_map (λ e. e.1) entry)
        ≡ option_and_then (λ (r : Row). slice_get r.values 0) (option_map row_of entry)
    at_entry None = refl
    at_entry (Some e) = first_text e.1.vals.items

-- the task of a command that was found
pub task_is : (rows : Option (List ℕ × List Row)) (name : List ℕ) (found : Found) (command : CommandName)
    → rows ≡ Some (name, rows_of found) → command_named name ≡ Some command
    → task_in command (first_value found) ≡ task_found rows
task_is rows name found command is named =
    ap (task_in command) (fun_ext (value_is found))
    ∙ sym (ap task_found is ∙ ap (option_and_then (λ command. task_in command (λ id. first_of id (rows_of found))))
    named)

-- no task, where what was found is no command
pub no_task : (rows : Option (List ℕ × List Row)) (name : List ℕ) (found : Found)
    → rows ≡ Some (name, rows_of found) → command_named name ≡ None → task_found rows ≡ None
no_task rows name found is named =
    ap task_found is ∙ ap (option_and_then (λ command. task_in command (λ id. first_of id (rows_of found)))) named

simple : is_simple program ≡ true
simple = refl

free : is_simple_and_free program ≡ true
free = refl

none_where_faulty : (kinds : Kinds) (e : Error) (task : Option Task) → HasKind kinds e → kind_of e ≢ OutOfMemory
    → unless_faulty kinds task ≡ None
none_where_faulty [] e task (inl out) other = absurd (other out)
none_where_faulty [] e task (inr among) other = absurd among
none_where_faulty (kind ∷ kinds) e task has other = refl

-- words that clap refuses ask for nothing
pub refused_is_outside : (app : App) (texts words : List (List ℕ)) (e : Error) → app ≡ program → texts ≡ words
    → (is_simple_and_free app ≡ true → HasKind (fault_of app texts) e) → kind_of e ≢ OutOfMemory
    → command_task words ≡ None
refused_is_outside app texts words e app_is texts_are kinds other =
    ap₂ (λ (a : App) (ts : List (List ℕ)). unless_faulty (fault_of a ts) (task_found (subcommand_of program words)))
    (sym app_is) (sym texts_are)
    ∙ none_where_faulty (fault_of app texts) e _ (kinds (ap is_simple_and_free app_is ∙ free)) other

-- words that clap takes ask for what it found
pub taken_is_found : (app : App) (texts words : List (List ℕ)) (m : ArgMatches) → app ≡ program → texts ≡ words
    → (is_simple_and_free app ≡ true → fault_of app texts ≡ []) → HasMatchesOf app texts m
    → task_found (subcommand_rows_of m) ≡ command_task words
taken_is_found app texts words m app_is texts_are kinds has =
    ap task_found ((has (ap is_simple app_is ∙ simple)).1 ∙ ap₂ subcommand_of app_is texts_are)
    ∙ sym (ap (λ (faults : Kinds). unless_faulty faults (task_found (subcommand_of program words)))
    (sym (ap₂ fault_of app_is texts_are) ∙ kinds (ap is_simple_and_free app_is ∙ free)))
