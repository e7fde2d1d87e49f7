use Rattle.std.proofs.Common.{refl}
use Rattle.clap.proofs.OnLiterals.{clap_on_literals}
use Rattle.alto_words.proofs.worked_lines.values_are_of_their_kinds.Goals as goal

pub returns : goal.returns
unfolding clap_on_literals
returns c = record {
  epoch = refl;
  no_epoch = refl;
  no_id = refl;
  form = refl;
  capitals = refl;
  empty_store = refl;
}
