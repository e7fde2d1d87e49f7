-- Building the command line.
use Rattle.std.proofs.Common.{◌≡◌, ◌∙◌, ap, ap₂, Bool, true, false, ◌||◌, refl, Result, IfOk}
use Rattle.std.proofs.lemmas.Result.{IfOk-weaker}
use Rattle.clap.specs.Words.{AddsArg, App, Rule, app_of, rule_of, with_rule, with_subcommand}
use Rattle.clap.specs.declared.builder.arg.Arg.{Arg}
use Rattle.clap.specs.declared.builder.command.Command.{Command}
use Rattle.clap.specs.declared.builder.command.Command.TheViews.{out-Command as fields_of}
use Rattle.alto_words.specs.Grammar.{Adds}

or_false : (b : Bool) → (b || false) ≡ b
or_false true = refl
or_false false = refl

-- an argument that isn't global adds its rule, and nothing else that a parse reads
pub adds : {E : Type 0} (old : Command) (arg : Arg) (rule : Rule) (answer : Result Command E) → arg.global ≡ false
    → rule_of arg ≡ rule
    → IfOk answer (λ new. AddsArg old arg new) → IfOk answer (Adds rule old)
adds {E} old arg rule answer local rule_is added = IfOk-weaker answer _ _ (λ new h. (
  h.shape local ∙ ap (with_rule (app_of old)) rule_is,
  h.globals ∙ ap (λ (global : Bool). (fields_of old).has_globals || global) local
      ∙ or_false (fields_of old).has_globals,
)) added

-- a program with one more command, where both are known
pub with_is : {old new sub old' sub' : App} → new ≡ with_subcommand old sub.top → old ≡ old' → sub ≡ sub'
    → new ≡ with_subcommand old' sub'.top
with_is added old_is sub_is = added ∙ ap₂ with_subcommand old_is (ap (λ (a : App). a.top) sub_is)
