use Rattle.std.proofs.Common.{refl}
use Rattle.clap.proofs.OnLiterals.{clap_on_literals}
use Rattle.alto_words.proofs.worked_lines.arguments_are_those_of_the_command.Goals as goal

pub returns : goal.returns
unfolding clap_on_literals
returns c = record {
  twice = refl;
  the_same_twice = refl;
  no_option = refl;
  no_value = refl;
  no_side = refl;
  no_keep = refl;
  no_positional = refl;
  one_positional_more = refl;
  another_option = refl;
  prefix_of_an_option = refl;
  short_option = refl;
}
