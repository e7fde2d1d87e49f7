use Rattle.std.proofs.Common.{refl}
use Rattle.clap.proofs.OnLiterals.{clap_on_literals}
use Rattle.alto_words.proofs.worked_lines.other_words_are_outside.Goals as goal

pub returns : goal.returns
unfolding clap_on_literals
returns c = record {
  no_words = refl;
  no_command = refl;
  prefix_of_a_command = refl;
  help_as_a_word = refl;
  short_help = refl;
  help_among_arguments = refl;
  help_of_no_command = refl;
  help_before_a_command = refl;
  version_of_a_command = refl;
}
