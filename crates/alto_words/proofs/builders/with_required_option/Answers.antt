use Rattle.std.proofs.Common.{rules, ◌≡◌}
use Rattle.clap.specs.Words.{rule_of}
use Rattle.alto_words.specs.Grammar.{option, required}
use Rattle.alto_words.proofs.BuilderLemmas.{adds}
use Rattle.alto_words.proofs.builders.with_required_option.Goals as goal

pub returns : goal.returns
returns c =
    let rule_is : rule_of c.required.result ≡ required (option c.args.name.now) = search rules in
    adds c.args.command c.required.result _ c.arg.result (search rules) rule_is c.arg.ensures
