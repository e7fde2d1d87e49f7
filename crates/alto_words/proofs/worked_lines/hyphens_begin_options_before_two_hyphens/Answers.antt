use Rattle.std.proofs.Common.{refl}
use Rattle.clap.proofs.OnLiterals.{clap_on_literals}
use Rattle.alto_words.proofs.worked_lines.hyphens_begin_options_before_two_hyphens.Goals as goal

pub returns : goal.returns
unfolding clap_on_literals
returns c = record {
  value = refl;
  positional = refl;
  ended = refl;
  ended_later = refl;
  joined = refl;
  hyphen_in_a_value = refl;
  option_as_a_value = refl;
  end_as_a_value = refl;
  hyphen_in_a_positional = refl;
  option_behind_the_end = refl;
  end_before_the_command = refl;
}
