use Rattle.std.proofs.Common.{rules, ◌≡◌}
use Rattle.clap.specs.Words.{rule_of}
use Rattle.alto_words.specs.Grammar.{option}
use Rattle.alto_words.proofs.BuilderLemmas.{adds}
use Rattle.alto_words.proofs.builders.with_option.Goals as goal

pub returns : goal.returns
returns c =
    let rule_is : rule_of c.long.result ≡ option c.args.name.now = search rules in
    adds c.args.command c.long.result _ c.arg.result (search rules) rule_is c.arg.ensures
