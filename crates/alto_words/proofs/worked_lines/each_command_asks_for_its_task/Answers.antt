use Rattle.std.proofs.Common.{refl}
use Rattle.clap.proofs.OnLiterals.{clap_on_literals}
use Rattle.alto_words.proofs.worked_lines.each_command_asks_for_its_task.Goals as goal

pub returns : goal.returns
unfolding clap_on_literals
returns c = record {
  init = refl;
  pipe = refl;
  usual_turns = refl;
  serve = refl;
  usually_served = refl;
  import = refl;
  json = refl;
  show = refl;
  drill = refl;
  longer_drill = refl;
  trim = refl;
  help = refl;
  help_of_a_command = refl;
  version = refl;
}
