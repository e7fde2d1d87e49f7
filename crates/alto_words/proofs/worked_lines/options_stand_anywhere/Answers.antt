use Rattle.std.proofs.Common.{refl}
use Rattle.clap.proofs.OnLiterals.{clap_on_literals}
use Rattle.alto_words.proofs.worked_lines.options_stand_anywhere.Goals as goal

pub returns : goal.returns
unfolding clap_on_literals
returns c = record {
  before = refl;
  around = refl;
  equals_in_a_value = refl;
  before_the_command = refl;
}
